-- The entries in the blocks of an image.
use Rattle.std.proofs.Common.{◌≡◌, ◌*◌, ℕ, arith, inl, inr, List, [], ◌∷◌, ◌++◌, Option, Some, refl, sym, ap, ◌∙◌, append_assoc}
use Rattle.std.specs.Option.{option_map, option_and_then}
use Rattle.std.proofs.lemmas.List.{append-nil}
use Rattle.strat_base.specs.Entries.{Entry}
use Rattle.strat_base.proofs.ResultFacts.{option_cases}
use Rattle.def_crash.specs.Image.{Image}
use Rattle.def_bytes.specs.Block.{block_in}
use Rattle.def_bytes.specs.Arrays.{block_on, entries_on}
use Rattle.std.proofs.lemmas.List.Elements.{Contains-append_right}
use Rattle.def_crash.specs.Blocks.{AgreeOn}
use Rattle.def_crash.proofs.ImageLemmas.{window_same}

-- the blocks behind others have their entries behind those
pub entries_on-append : (f : Image) (xs ys : List ℕ) (es fs : List Entry) → entries_on f xs ≡ Some es → entries_on f ys ≡ Some fs → entries_on f (xs ++ ys) ≡ Some (es ++ fs)
unfolding entries_on
entries_on-append f [] ys es fs first second = let none : [] ≡ es = cc in second ∙ ap (λ (x : List Entry). Some (x ++ fs)) none
entries_on-append f (x ∷ xs) ys es fs first second =
    elim (option_cases (block_on f x)) [
      | inl none ↦ absurd (let e = ap (λ (o : Option (List Entry)). option_and_then (λ entries. option_map (λ rest. entries ++ rest) (entries_on f xs)) o) (sym none) ∙ first in cc)
      | inr here ↦
          let e = ap (λ (o : Option (List Entry)). option_and_then (λ entries. option_map (λ rest. entries ++ rest) (entries_on f xs)) o) (sym here.1) ∙ first in
          elim (option_cases (entries_on f xs)) [
            | inl none ↦ absurd (let d = ap (λ (o : Option (List Entry)). option_map (λ rest. here.0 ++ rest) o) (sym none) ∙ e in cc)
            | inr rest ↦
                let d = ap (λ (o : Option (List Entry)). option_map (λ r. here.0 ++ r) o) (sym rest.1) ∙ e in
                let same : here.0 ++ rest.0 ≡ es = cc in
                ap (λ (o : Option (List Entry)). option_and_then (λ entries. option_map (λ r. entries ++ r) (entries_on f (xs ++ ys))) o) here.1
                ∙ ap (λ (o : Option (List Entry)). option_map (λ r. here.0 ++ r) o) (entries_on-append f xs ys rest.0 fs rest.1 second)
                ∙ ap (λ (z : List Entry). Some z) (sym (append_assoc here.0 rest.0 fs) ∙ ap (λ (z : List Entry). z ++ fs) same)
          ]
    ]

-- the entries of one block
pub entries_on-one : (f : Image) (b : ℕ) (es : List Entry) → block_on f b ≡ Some es → entries_on f (b ∷ []) ≡ Some es
unfolding entries_on
entries_on-one f b es is =
    ap (λ (o : Option (List Entry)). option_and_then (λ entries. option_map (λ rest. entries ++ rest) (Some [])) o) is
    ∙ ap (λ (z : List Entry). Some z) (append-nil es)

-- blocks that have the same bytes have the same entries
pub entries_on-kept : (f g : Image) (blocks : List ℕ) → AgreeOn blocks f g → entries_on g blocks ≡ entries_on f blocks
unfolding entries_on
entries_on-kept f g [] same = refl
entries_on-kept f g (b ∷ blocks) same =
    let here : block_on g b ≡ block_on f b = ap block_in (window_same f g (4096 * b) 4096 (same b (0, omega arith, refl))) in
    let rest : entries_on g blocks ≡ entries_on f blocks = entries_on-kept f g blocks (λ o one. same o (Contains-append_right (b ∷ []) blocks o one)) in
    λ i. option_and_then (λ entries. option_map (λ r. entries ++ r) (rest i)) (here i)
