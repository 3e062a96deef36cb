-- The numbers of a job of making a store are a store's limits.
use Rattle.std.proofs.Common.{◌≡◌, ◌≤◌, ℕ, Bool, true, false, cond, leb, ◌&&◌, List, [], ◌∷◌, length, Option, Some, None, refl, arith}
use Rattle.std.specs.Prelude.{option_map, option_and_then, bytes_eq, codes, not, ◌==◌}
use Rattle.std.specs.Str.Parse.{digits_value}
use Rattle.std.proofs.lemmas.Bool.{and_parts, leb-true}
use Rattle.def_bytes.specs.SuperBlock.{AreLimits}
use Rattle.castle.specs.Arguments.{Subcommand, Format, Serve, Levels, Check, Workload, is_numeral, number_in, opening_in, format_in, workload_in, subcommand_in, Lead, Follow, Export, export_in}

-- a choice that gives something was made by its test
chosen : {A : Type 0} (b : Bool) (x : Option A) (y : A) → cond b x None ≡ Some y → (b ≡ true) × (x ≡ Some y)
chosen true x y e = (refl, e)
chosen {A} false x y e = absurd (let f : ◌≡◌ {A = Option A} None (Some y) = e in cc)

-- the number of a word is within the range
in_range : (least most : ℕ) (word : List ℕ) (n : ℕ) → number_in least most word ≡ Some n → (least ≤ n) × (n ≤ most)
in_range least most word n e =
    let v = digits_value 10 word in
    let test = chosen (is_numeral word && (leb least v && leb v most)) (Some v) n e in
    let same : v ≡ n = let f : ◌≡◌ {A = Option ℕ} (Some v) (Some n) = test.1 in cc in
    let parts = and_parts (is_numeral word) (leb least v && leb v most) test.0 in
    let bounds = and_parts (leb least v) (leb v most) parts.1 in
    let low : least ≤ v = leb-true least v bounds.0 in
    let high : v ≤ most = leb-true v most bounds.1 in
    (omega arith, omega arith)

-- the last number
last_read : (path : List ℕ) (m c x y z : ℕ) (p : List ℕ) (o : Option ℕ) → option_map (λ v. Format path m c v) o ≡ Some (Format p x y z) → (m ≡ x) × (c ≡ y) × (o ≡ Some z)
last_read path m c x y z p None e = absurd (let f : ◌≡◌ {A = Option Subcommand} None (Some (Format p x y z)) = e in cc)
last_read path m c x y z p (Some v) e =
    let f : ◌≡◌ {A = Option Subcommand} (Some (Format path m c v)) (Some (Format p x y z)) = e in (cc, cc, cc)

-- and the ones before it
middle_read : (path : List ℕ) (m x y z : ℕ) (p : List ℕ) (o w : Option ℕ)
    → option_and_then (λ c. option_map (λ v. Format path m c v) w) o ≡ Some (Format p x y z) → (m ≡ x) × (o ≡ Some y) × (w ≡ Some z)
middle_read path m x y z p None w e = absurd (let f : ◌≡◌ {A = Option Subcommand} None (Some (Format p x y z)) = e in cc)
middle_read path m x y z p (Some c) w e =
    let last = last_read path m c x y z p w e in
    let same : c ≡ y = last.1 in
    (last.0, cc, last.2)

first_read : (path : List ℕ) (x y z : ℕ) (p : List ℕ) (o w u : Option ℕ)
    → option_and_then (λ m. option_and_then (λ c. option_map (λ v. Format path m c v) u) w) o ≡ Some (Format p x y z) → (o ≡ Some x) × (w ≡ Some y) × (u ≡ Some z)
first_read path x y z p None w u e = absurd (let f : ◌≡◌ {A = Option Subcommand} None (Some (Format p x y z)) = e in cc)
first_read path x y z p (Some m) w u e =
    let middle = middle_read path m x y z p w u e in
    let same : m ≡ x = middle.0 in
    (cc, middle.1, middle.2)

size_in : (job path mem changes versions p : List ℕ) (x y z : ℕ) → format_in job path mem changes versions ≡ Some (Format p x y z) → AreLimits x y z
size_in job path mem changes versions p x y z e =
    let body = chosen (bytes_eq job (codes "format") && not (length path == 0)) _ (Format p x y z) e in
    let numbers = first_read path x y z p (number_in 4 4096 mem) (number_in 1 16777216 changes) (number_in 1 16384 versions) body.1 in
    let m = in_range 4 4096 mem x numbers.0 in
    let c = in_range 1 16777216 changes y numbers.1 in
    let v = in_range 1 16384 versions z numbers.2 in
    record { mem_least = m.0; mem_most = m.1; changes_least = c.0; changes_most = c.1; versions_least = v.0; versions_most = v.1 }

-- a job of opening a store makes none
opens_only : (job path p : List ℕ) (x y z : ℕ) → opening_in job path ≡ Some (Format p x y z) → ⊥
opens_only job path p x y z e =
    by_tests (length path == 0) (bytes_eq job (codes "serve")) (bytes_eq job (codes "levels")) (bytes_eq job (codes "check")) (bytes_eq job (codes "lead")) (bytes_eq job (codes "follow")) e
  where
    by_tests : (a b c d f g : Bool)
        → cond a None (cond b (Some (Serve path)) (cond c (Some (Levels path)) (cond d (Some (Check path)) (cond f (Some (Lead path)) (cond g (Some (Follow path)) None))))) ≡ Some (Format p x y z) → ⊥
    by_tests true b c d f g e = let h : ◌≡◌ {A = Option Subcommand} None (Some (Format p x y z)) = e in cc
    by_tests false true c d f g e = let h : ◌≡◌ {A = Option Subcommand} (Some (Serve path)) (Some (Format p x y z)) = e in cc
    by_tests false false true d f g e = let h : ◌≡◌ {A = Option Subcommand} (Some (Levels path)) (Some (Format p x y z)) = e in cc
    by_tests false false false true f g e = let h : ◌≡◌ {A = Option Subcommand} (Some (Check path)) (Some (Format p x y z)) = e in cc
    by_tests false false false false true g e = let h : ◌≡◌ {A = Option Subcommand} (Some (Lead path)) (Some (Format p x y z)) = e in cc
    by_tests false false false false false true e = let h : ◌≡◌ {A = Option Subcommand} (Some (Follow path)) (Some (Format p x y z)) = e in cc
    by_tests false false false false false false e = let h : ◌≡◌ {A = Option Subcommand} None (Some (Format p x y z)) = e in cc

-- nor does one of carrying out a workload
works_only : (job path seed count p : List ℕ) (x y z : ℕ) → workload_in job path seed count ≡ Some (Format p x y z) → ⊥
works_only job path seed count p x y z e =
    by_numbers (number_in 0 18446744073709551615 seed) (number_in 0 1000000 count) (chosen (bytes_eq job (codes "workload") && not (length path == 0)) _ (Format p x y z) e).1
  where
    by_numbers : (s n : Option ℕ) → option_and_then (λ s. option_map (λ n. Workload path s n) n) s ≡ Some (Format p x y z) → ⊥
    by_numbers None n e = let f : ◌≡◌ {A = Option Subcommand} None (Some (Format p x y z)) = e in cc
    by_numbers (Some s) None e = let f : ◌≡◌ {A = Option Subcommand} None (Some (Format p x y z)) = e in cc
    by_numbers (Some s) (Some n) e = let f : ◌≡◌ {A = Option Subcommand} (Some (Workload path s n)) (Some (Format p x y z)) = e in cc

-- nor does one of exporting a version
exports_only : (job path version p : List ℕ) (x y z : ℕ) → export_in job path version ≡ Some (Format p x y z) → ⊥
exports_only job path version p x y z e = by_number (number_in 0 4294967295 version) (chosen (bytes_eq job (codes "export") && not (length path == 0)) _ (Format p x y z) e).1
  where
    by_number : (n : Option ℕ) → option_map (λ v. Export path v) n ≡ Some (Format p x y z) → ⊥
    by_number None e = let f : ◌≡◌ {A = Option Subcommand} None (Some (Format p x y z)) = e in cc
    by_number (Some v) e = let f : ◌≡◌ {A = Option Subcommand} (Some (Export path v)) (Some (Format p x y z)) = e in cc

-- the numbers of a job of making a store
pub limits_of : (words : List (List ℕ)) (p : List ℕ) (x y z : ℕ) → subcommand_in words ≡ Some (Format p x y z) → AreLimits x y z
limits_of [] p x y z e = absurd (let f : ◌≡◌ {A = Option Subcommand} None (Some (Format p x y z)) = e in cc)
limits_of (a ∷ []) p x y z e = absurd (let f : ◌≡◌ {A = Option Subcommand} None (Some (Format p x y z)) = e in cc)
limits_of (a ∷ b ∷ []) p x y z e = absurd (opens_only a b p x y z e)
limits_of (a ∷ b ∷ c ∷ []) p x y z e = absurd (exports_only a b c p x y z e)
limits_of (a ∷ b ∷ c ∷ d ∷ []) p x y z e = absurd (works_only a b c d p x y z e)
limits_of (a ∷ b ∷ c ∷ d ∷ f ∷ []) p x y z e = size_in a b c d f p x y z e
limits_of (a ∷ b ∷ c ∷ d ∷ f ∷ g ∷ rest) p x y z e = absurd (let h : ◌≡◌ {A = Option Subcommand} None (Some (Format p x y z)) = e in cc)
