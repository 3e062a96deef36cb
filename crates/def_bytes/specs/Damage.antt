-- What is read of a disk, or the block that is damaged.
use Rattle.std.specs.Prelude.{ℕ, Bool, if◌then◌else◌, List, ◌∷◌, Option, Some, None, Result, Ok, Err}

-- something that is read of a disk, or the number of the block that is damaged
abbrev pub Read : Type 0 → Type 0
Read A = Result A ℕ

-- what is read after something else
abbrev pub and_then : {A B : Type 0} → Read A → (A → Read B) → Read B
and_then (Ok x) behind = behind x
and_then (Err block) behind = Err block

-- something that was found, or else a block
abbrev pub found_or : {A : Type 0} → ℕ → Option A → Read A
found_or block None = Err block
found_or block (Some x) = Ok x

-- something that passed a test, or else a block
abbrev pub passed_or : {A : Type 0} → ℕ → Bool → A → Read A
passed_or block test x = if test then Ok x else Err block

-- an item in front of a list that is read
abbrev pub put_first : {A : Type 0} → A → Read (List A) → Read (List A)
put_first x (Ok xs) = Ok (x ∷ xs)
put_first x (Err block) = Err block
