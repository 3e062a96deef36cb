-- What a function found, beside what reading finds.
use Rattle.std.specs.Prelude.{◌≡◌, Option, Some, None}

-- what a function found is what reading finds, seen by view
abbrev pub Finds : {X Y : Type 0} → (X → Y) → Option X → Option Y → Type 0
Finds view None read = read ≡ None
Finds view (Some x) read = read ≡ Some (view x)
