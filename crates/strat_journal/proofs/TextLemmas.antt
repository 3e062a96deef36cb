-- Records in a buffer.
use Rattle.std.proofs.Common.{◌≡◌, ◌≤◌, ◌<◌, ◌+◌, ◌-◌, ℕ, suc, List, [], ◌∷◌, ◌++◌, length, take, drop, set, sym, ap, ◌∙◌, arith, append_assoc, length-append, length-take, length-drop}
use Rattle.std.proofs.lemmas.List.{set_split, take_at, length-set}
use Rattle.strat_base.specs.Numbers.{placed}
use Rattle.strat_base.proofs.PlacedLemmas.{placed_next, placed_three, length-placed}

pub set_placed : (xs : List ℕ) (at x : ℕ) → at < length xs → set xs at x ≡ placed xs at (x ∷ [])
set_placed xs at x within =
    let next : suc at ≡ at + 1 = omega arith in
    set_split xs at x within
    ∙ ap (λ (n : ℕ). take at xs ++ x ∷ drop n xs) next
    ∙ sym (append_assoc (take at xs) (x ∷ []) (drop (at + 1) xs))

-- a gate, a text and another gate, written one behind the other
pub gate_text_gate : (old text new mid : List ℕ) (at end room : ℕ) → at + 2 + length text ≤ length old → end ≡ at + 1 + length text
    → room ≡ length old → mid ≡ set old at 0xa7 → new ≡ placed mid (at + 1) text
    → set (take room (new ++ drop (length new) (set old at 0xa7))) end 0 ≡ placed old at (0xa7 ∷ (text ++ 0 ∷ []))
gate_text_gate old text new mid at end room fits is room_is mid_is new_is =
    let size : length mid ≡ length old = ap length mid_is ∙ length-set old at 0xa7 in
    let first : mid ≡ placed old at (0xa7 ∷ []) = mid_is ∙ set_placed old at 0xa7 (omega arith) in
    let long : length new ≡ length old = ap length new_is ∙ length-placed mid text (at + 1) (omega arith) ∙ size in
    let whole : take room (new ++ drop (length new) (set old at 0xa7)) ≡ new = take_at new (drop (length new) (set old at 0xa7)) room (omega arith) in
    ap (λ (x : List ℕ). set x end 0) whole
    ∙ set_placed new end 0 (omega arith)
    ∙ ap (λ (x : List ℕ). placed x end (0 ∷ [])) (new_is ∙ ap (λ (x : List ℕ). placed x (at + 1) text) first)
    ∙ placed_three old (0xa7 ∷ []) text (0 ∷ []) at (at + 1) end (omega arith) (omega arith) (omega arith)

-- a text written over the front of a buffer that was lent
pub whole_buffer : (items lent text new : List ℕ) (room : ℕ) → lent ≡ items → room ≡ length items → length text ≤ length items → new ≡ placed lent 0 text
    → take room (new ++ drop (length new) items) ≡ placed items 0 text
whole_buffer items lent text new room same room_is fits new_is =
    let long : length new ≡ length lent = ap length new_is ∙ length-placed lent text 0 (omega (arith, fits, ap length same)) in
    take_at new (drop (length new) items) room (omega (arith, long, ap length same, room_is)) ∙ new_is ∙ ap (λ (x : List ℕ). placed x 0 text) same

-- a part moved to the front, and a closed gate after it
pub part_then_gate : (old new : List ℕ) (from to : ℕ) → from ≤ to → to < length old → new ≡ placed old 0 (take (to - from) (drop from old))
    → set new (to - from) 0 ≡ placed old 0 (take (to - from) (drop from old) ++ 0 ∷ [])
part_then_gate old new from to le fits new_is =
    let part : List ℕ = take (to - from) (drop from old) in
    let size : length part ≡ to - from = omega (arith, length-take (to - from) (drop from old), length-drop from old) in
    let long : length new ≡ length old = ap length new_is ∙ length-placed old part 0 (omega (arith, size)) in
    set_placed new (to - from) 0 (omega (arith, long))
    ∙ ap (λ (x : List ℕ). placed x (to - from) (0 ∷ [])) new_is
    ∙ placed_next old part (0 ∷ []) 0 (to - from) (omega (arith, size)) (omega (arith, size))

-- the same in a buffer that was lent
pub moved_whole : (items lent new : List ℕ) (room from to : ℕ) → lent ≡ items → room ≡ length items → from ≤ to → to < length items → new ≡ placed lent 0 (take (to - from) (drop from lent) ++ 0 ∷ [])
    → take room (new ++ drop (length new) items) ≡ placed items 0 (take (to - from) (drop from items) ++ 0 ∷ [])
moved_whole items lent new room from to same room_is le fits new_is =
    let text : List ℕ = take (to - from) (drop from items) in
    let long : length (text ++ 0 ∷ []) ≤ length items = omega (arith, length-append text (0 ∷ []), length-take (to - from) (drop from items), length-drop from items) in
    whole_buffer items lent (text ++ 0 ∷ []) new room same room_is long (new_is ∙ ap (λ (x : List ℕ). placed lent 0 (take (to - from) (drop from x) ++ 0 ∷ [])) same)
