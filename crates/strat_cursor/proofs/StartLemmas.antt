-- What a cursor pins at its start.
use Rattle.std.proofs.Common.{◌≡◌, ◌<◌, ◌+◌, ◌-◌, ℕ, true, leb, cond, List, [], ◌∷◌, ◌++◌, Option, Some, None, length, take, get_or, refl, sym, ap, ◌∙◌, arith}
use Rattle.std.specs.List.{filter_map}
use Rattle.std.specs.Option.{option_and_then, option_to_list}
use Rattle.std.proofs.lemmas.List.{take_more}
use Rattle.std.proofs.lemmas.Bool.{le-leb}
use Rattle.std.proofs.lemmas.List.Elements.{filter_map-append}
use Rattle.strat_base.specs.Tree.{Parents}
use Rattle.strat_base.specs.declared.descriptors.ArrayDesc.{ArrayDesc}
use Rattle.strat_base.specs.declared.descriptors.LevelDesc.{LevelDesc}
use Rattle.strat_level.specs.Levels.{desc_for, level_numbered}
use Rattle.strat_cursor.specs.Looking.{levels_there, arrays_asked}
use Rattle.strat_cursor.specs.Pins.{arrays_before}

-- the levels that are there in front of one more
one_more_level : (parents : Parents) (v : ℕ) (level : Option LevelDesc)
    → arrays_asked parents (level ∷ []) v ≡ option_to_list (option_and_then (λ l. desc_for parents l v) level)
one_more_level parents v None = refl
one_more_level parents v (Some level) = by (desc_for parents level v)
  where
    by : (a : Option ArrayDesc) → filter_map (λ (x : Option ArrayDesc). x) (a ∷ []) ≡ option_to_list a
    by None = refl
    by (Some a) = refl

-- the arrays of the first levels and of one more
pub arrays_more : (parents : Parents) (levels : List (Option LevelDesc)) (i v : ℕ) → i < length levels
    → arrays_before parents levels (i + 1) v
    ≡ arrays_before parents levels i v ++ option_to_list (option_and_then (λ l. desc_for parents l v) (level_numbered levels (i + 1)))
arrays_more parents levels i v within =
    let split : arrays_before parents levels (i + 1) v ≡ arrays_before parents levels i v ++ arrays_asked parents (get_or levels i None ∷ []) v =
    ap (λ (ls : List (Option LevelDesc)). arrays_asked parents ls v) (take_more levels i None within)
    ∙ ap (λ (ls : List LevelDesc). filter_map (λ level. desc_for parents level v) ls) (filter_map-append (λ (l : Option LevelDesc). l) (take i levels) (get_or levels i None ∷ []))
    ∙ filter_map-append (λ level. desc_for parents level v) (levels_there (take i levels)) (levels_there (get_or levels i None ∷ [])) in
    let here : get_or levels i None ≡ level_numbered levels (i + 1) =
    (let back : i ≡ i + 1 - 1 = omega arith in ap (λ n. get_or levels n None) back)
    ∙ (let some : true ≡ leb 1 (i + 1) = sym (le-leb 1 (i + 1) (omega arith)) in ap (λ b. cond b (get_or levels (i + 1 - 1) None) None) some) in
    split ∙ ap (λ (x : List ArrayDesc). arrays_before parents levels i v ++ x) (one_more_level parents v (get_or levels i None) ∙ ap (λ (l : Option LevelDesc). option_to_list (option_and_then (λ x. desc_for parents x v) l)) here)
