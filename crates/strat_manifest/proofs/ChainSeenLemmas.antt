-- Blocks that are marked in a space, and added to extents.
use Rattle.std.proofs.Common.{◌≡◌, ◌<◌, ◌+◌, ◌-◌, ℕ, zero, suc, Result, Ok, Err, IfOk, MatchBool, Bool, true, false, eqb, ltb, ◌||◌, ◌↔◌, inl, inr, get_or, List, [], ◌∷◌, ◌++◌, length, take, refl, sym, ap, ◌∙◌, subst, arith, append_assoc, append-nil, true≢false}
use Rattle.std.specs.List.{list_any, range_with_len}
use Rattle.std.proofs.lemmas.Bool.{cases_order, eqb-true, eq-eqb, lt-ltb, ltb-true, false_from_ne_true, ne_eqb}
use Rattle.std.proofs.lemmas.Grind.{flat_map-append}
use Rattle.std.proofs.lemmas.List.{take_more, take_all}
use Rattle.std.proofs.lemmas.List.Folds.{list_any-append}
use Rattle.strat_base.specs.declared.descriptors.Extent.{Extent}
use Rattle.strat_extent.specs.Blocks.{SpaceView, times_in, is_used, is_free}
use Rattle.strat_extent.specs.Change.{IsMarked, SameBlocks, CanMark}
use Rattle.strat_extent.proofs.BlockLemmas.{marked_or}
use Rattle.strat_extent.proofs.CountLemmas.{inside_in, inside_below, inside_above, inside_le}
use Rattle.def_bytes.specs.Arrays.{blocks_of}
use Rattle.strat_manifest.specs.Chains.{AreSeen}

-- an extent of one block
abbrev pub one_block : ℕ → Extent
one_block b = record { start = b; len = 1 }

both_ways : (x y : Bool) → (x ≡ true → y ≡ true) → (y ≡ true → x ≡ true) → x ≡ y
both_ways true y to from = sym (to refl)
both_ways false true to from = from refl
both_ways false false to from = refl

one_time : (b q : ℕ) → ltb 0 (times_in (one_block b ∷ []) q) ≡ eqb b q
one_time b q =
    elim (cases_order b q) [
      | inl same ↦
          let here = inside_in b (b + 1) q (omega arith) (omega arith) in
          lt-ltb 0 (times_in (one_block b ∷ []) q) (omega (arith, here)) ∙ sym (eq-eqb b q same)
      | inr (inl lt) ↦
          let away = inside_above b (b + 1) q (omega arith) in
          false_from_ne_true (ltb 0 (times_in (one_block b ∷ []) q)) (λ t. let some = ltb-true 0 (times_in (one_block b ∷ []) q) t in omega (arith, away, some))
          ∙ sym (ne_eqb b q (λ e. omega arith))
      | inr (inr lt) ↦
          let away = inside_below b (b + 1) q lt in
          false_from_ne_true (ltb 0 (times_in (one_block b ∷ []) q)) (λ t. let some = ltb-true 0 (times_in (one_block b ∷ []) q) t in omega (arith, away, some))
          ∙ sym (ne_eqb b q (λ e. omega arith))
    ]

can_mark_one : (s : SpaceView) (b : ℕ) → is_free s b ≡ true → CanMark s (one_block b ∷ [])
can_mark_one s b free = record {
  free = λ q there. subst (λ (k : ℕ). is_free s k ≡ true) (eqb-true b q (sym (one_time b q) ∙ lt-ltb 0 (times_in (one_block b ∷ []) q) there)) free;
  once = λ q. let le = inside_le b (b + 1) q in omega (arith, le);
}

-- a block may be marked exactly where it is free
pub marks_free : (s : SpaceView) (b : ℕ) (marked : Bool) → ((marked ≡ true) ↔ CanMark s (one_block b ∷ [])) → marked ≡ is_free s b
marks_free s b marked iff =
    both_ways marked (is_free s b) (λ t. (iff.0 t).free b (let here = inside_in b (b + 1) b (omega arith) (omega arith) in omega (arith, here))) (λ free. iff.1 (can_mark_one s b free))

or_end : (p q : Bool) → (p || q) ≡ (p || (q || false))
or_end p true = refl
or_end p false = refl

-- one more block was seen
pub seen_more : (s t : SpaceView) (b : ℕ) (blocks : List ℕ) → IsMarked s (one_block b ∷ []) t → AreSeen s blocks → AreSeen t (blocks ++ b ∷ [])
seen_more s t b blocks marked seen = record {
  first = marked.first ∙ seen.first;
  used = λ q.
      marked_or s t (one_block b ∷ []) marked q ∙ ap (λ (p : Bool). is_used s q || p) (one_time b q) ∙ ap (λ (p : Bool). p || eqb b q) (seen.used q)
      ∙ or_end (list_any (λ other. eqb other q) blocks) (eqb b q) ∙ sym (list_any-append (λ other. eqb other q) blocks (b ∷ []));
}

range_longer : (a n : ℕ) → range_with_len a (n + 1) ≡ range_with_len a n ++ (a + n) ∷ []
range_longer a zero = let same : a ≡ a + 0 = omega arith in ap (λ (k : ℕ). k ∷ []) same
range_longer a (suc n) =
    let same : a + 1 + n ≡ a + suc n = omega arith in
    let next : suc n + 1 ≡ suc (n + 1) = omega arith in
    ap (range_with_len a) next ∙ ap (λ (x : List ℕ). a ∷ x) (range_longer (a + 1) n ∙ ap (λ (k : ℕ). range_with_len (a + 1) n ++ k ∷ []) same)

blocks_behind : (es : List Extent) (e : Extent) → blocks_of (es ++ e ∷ []) ≡ blocks_of es ++ range_with_len e.start e.len
blocks_behind es e = flat_map-append (λ x. range_with_len x.start x.len) es (e ∷ []) ∙ ap (λ (x : List ℕ). blocks_of es ++ x) (append-nil (range_with_len e.start e.len))

-- a block in an extent of its own
pub block_pushed : (es : List Extent) (b : ℕ) → blocks_of (es ++ one_block b ∷ []) ≡ blocks_of es ++ b ∷ []
block_pushed es b = blocks_behind es (one_block b)

ends_with : (xs : List Extent) (z : Extent) → 0 < length xs → z ≡ get_or xs (length xs - 1) z → xs ≡ take (length xs - 1) xs ++ z ∷ []
ends_with xs z some last =
    let all : length xs - 1 + 1 ≡ length xs = omega arith in
    sym (take_all (length xs) xs (omega arith)) ∙ ap (λ (n : ℕ). take n xs) (sym all) ∙ take_more xs (length xs - 1) z (omega arith)
    ∙ ap (λ (e : Extent). take (length xs - 1) xs ++ e ∷ []) (sym last)

-- a block in the last extent, which ended just before it
pub block_joined : (xs : List Extent) (z longer : Extent) (b : ℕ) → 0 < length xs → z ≡ get_or xs (length xs - 1) z → longer.start ≡ z.start → longer.len ≡ z.len + 1 → z.start + z.len ≡ b
    → blocks_of (take (length xs - 1) xs ++ longer ∷ []) ≡ blocks_of xs ++ b ∷ []
block_joined xs z longer b some last start len behind =
    let ys : List Extent = take (length xs - 1) xs in
    let one : range_with_len longer.start longer.len ≡ range_with_len z.start z.len ++ b ∷ [] =
    (λ i. range_with_len (start i) (len i)) ∙ range_longer z.start z.len ∙ ap (λ (k : ℕ). range_with_len z.start z.len ++ k ∷ []) behind in
    blocks_behind ys longer
    ∙ ap (λ (x : List ℕ). blocks_of ys ++ x) one
    ∙ sym (append_assoc (blocks_of ys) (range_with_len z.start z.len) (b ∷ []))
    ∙ ap (λ (x : List ℕ). x ++ b ∷ []) (sym (blocks_behind ys z) ∙ ap blocks_of (sym (ends_with xs z some last)))

-- what marking one block answers
pub marked_or_not : {E : Type 0} (r : Result Bool E) (s t : SpaceView) (one : List Extent) (b : ℕ) → one ≡ one_block b ∷ []
    → IfOk r (λ m. MatchBool m (IsMarked s one t) (SameBlocks s t)) → IfOk r (λ m. (m ≡ true) ↔ CanMark s one)
    → IfOk r (λ m. m ≡ is_free s b) × IfOk r (λ m. (blocks : List ℕ) → m ≡ true → AreSeen s blocks → AreSeen t (blocks ++ b ∷ []))
marked_or_not (Err e) s t one b is ok cause = (tt, tt)
marked_or_not (Ok true) s t one b is ok cause =
    (marks_free s b true (subst (λ (l : List Extent). (true ≡ true) ↔ CanMark s l) is cause), λ blocks yes seen. seen_more s t b blocks (subst (λ (l : List Extent). IsMarked s l t) is ok) seen)
marked_or_not (Ok false) s t one b is ok cause =
    (marks_free s b false (subst (λ (l : List Extent). (false ≡ true) ↔ CanMark s l) is cause), λ blocks yes. absurd (true≢false (sym yes)))
