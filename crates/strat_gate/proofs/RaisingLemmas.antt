-- What bytes written behind a gate, and then the gate, leave.
use Rattle.std.proofs.Common.{◌≡◌, ◌≤◌, ◌<◌, ◌+◌, ◌-◌, ℕ, suc, inl, inr, List, [], ◌∷◌, length, get_or, Some, IfSome, Result, IsErr, sym, ap, ◌∙◌, subst, arith}
use Rattle.std.proofs.lemmas.Result.{IfOk-from_err}
use Rattle.def_crash.specs.Image.{Image, Outside, patch}
use Rattle.def_crash.specs.Moments.{DiskView, Since, Passes, TearsOnly, IsDurable}
use Rattle.def_crash.proofs.ImageLemmas.{same_everywhere, below, inside, above, lies, over_below, over_inside, over_above, outside_patch}
use Rattle.def_crash.proofs.MomentLemmas.{since_split, tears_wider, tears_trans, at_told, settled_at}
use Rattle.strat_gate.specs.Raising.{BehindOrRaised, Raises}

-- the first of the bytes written over an image
pub patched_first : (c : Image) (at byte : ℕ) (bytes : List ℕ) → patch c at (byte ∷ bytes) at ≡ byte
patched_first c at byte bytes =
    let same : at - at ≡ 0 = omega arith in
    over_inside at (length (byte ∷ bytes)) _ c at (omega arith) (omega arith) ∙ ap (λ (i : ℕ). get_or (byte ∷ bytes) i 0) same

-- bytes written behind a place and then the place itself are written in one
module _ (c : Image) (at byte : ℕ) (bytes : List ℕ) where
  abbrev inner : Image
  inner = patch c (at + 1) bytes

  one_below : (i : ℕ) → i < at → patch inner at (byte ∷ []) i ≡ patch c at (byte ∷ bytes) i
  one_below i is = over_below at 1 _ inner i is ∙ over_below (at + 1) (length bytes) _ c i (omega arith) ∙ sym (over_below at (length (byte ∷ bytes)) _ c i is)

  one_inside : (i : ℕ) → at ≤ i → i < at + 1 → patch inner at (byte ∷ []) i ≡ patch c at (byte ∷ bytes) i
  one_inside i low high =
      let first : i - at ≡ 0 = omega arith in
      over_inside at 1 _ inner i low high
      ∙ ap (λ (k : ℕ). get_or (byte ∷ []) k 0) first
      ∙ ap (λ (k : ℕ). get_or (byte ∷ bytes) k 0) (sym first)
      ∙ sym (over_inside at (length (byte ∷ bytes)) _ c i low (omega arith))

  one_above : (i : ℕ) → at + 1 ≤ i → patch inner at (byte ∷ []) i ≡ patch c at (byte ∷ bytes) i
  one_above i past = over_above at 1 _ inner i past ∙ elim (lies (at + 1) (length bytes) i) [
    | below is ↦ absurd (omega arith)
    | inside low high ↦
        let next : i - at ≡ suc (i - (at + 1)) = omega arith in
        over_inside (at + 1) (length bytes) _ c i low high
        ∙ ap (λ (k : ℕ). get_or (byte ∷ bytes) k 0) (sym next)
        ∙ sym (over_inside at (length (byte ∷ bytes)) _ c i (omega arith) (omega arith))
    | above is ↦ over_above (at + 1) (length bytes) _ c i is ∙ sym (over_above at (length (byte ∷ bytes)) _ c i (omega arith))
  ]

  pub patched_one : patch inner at (byte ∷ []) ≡ patch c at (byte ∷ bytes)
  patched_one = same_everywhere (patch inner at (byte ∷ [])) (patch c at (byte ∷ bytes)) (λ i. elim (lies at 1 i) [
    | below is ↦ one_below i is
    | inside low high ↦ one_inside i low high
    | above is ↦ one_above i is
  ])

pub patched_twice : (c : Image) (at : ℕ) (bytes : List ℕ) → Outside at 1 (patch c (at + 1) bytes) (patch c at (0xa7 ∷ bytes))
patched_twice c at bytes = subst (λ (d : Image). Outside at 1 (patch c (at + 1) bytes) d) (patched_one c at 0xa7 bytes) (outside_patch (patch c (at + 1) bytes) at (0xa7 ∷ []))

module _ (old mid : DiskView) (gate : ℕ) (bytes : List ℕ) (first : TearsOnly old mid (gate + 1) (length bytes)) (begun : Passes old mid) where
  pub first_tears : TearsOnly old mid gate (1 + length bytes)
  first_tears = tears_wider old mid (gate + 1) (length bytes) gate (1 + length bytes) (omega arith) (omega arith) first

  pub first_moment : (f : Image) → old.content ≡ Some f → (c : Image) → Since mid old.moment c → BehindOrRaised old f gate bytes c
  first_moment f exposed c since = inl (first.each c since)

  module _ (new : DiskView) (second : TearsOnly mid new gate 1) (ended : Passes mid new) where
    pub both_tear : TearsOnly old new gate (1 + length bytes)
    both_tear = tears_trans old mid new gate (1 + length bytes) begun ended first_tears (tears_wider mid new gate 1 gate (1 + length bytes) (omega arith) (omega arith) second)

    pub second_moment : IfSome old.content (λ f. mid.content ≡ Some (patch f (gate + 1) bytes)) → IsDurable mid
        → (f : Image) → old.content ≡ Some f → (c : Image) → Since new old.moment c → BehindOrRaised old f gate bytes c
    second_moment written settled f exposed c since =
        elim (since_split mid new old.moment c ended since) [
          | inl early ↦ inl (first.each c early)
          | inr late ↦
              let torn = second.each c late in
              let there : mid.content ≡ Some (patch f (gate + 1) bytes) = at_told old.content (λ f. mid.content ≡ Some (patch f (gate + 1) bytes)) f exposed written in
              let same : torn.0 ≡ patch f (gate + 1) bytes = settled_at mid (patch f (gate + 1) bytes) there settled torn.0 torn.1 in
              inr (subst (λ (d : Image). Outside gate 1 d c) same torn.2)
        ]

    pub all_content : IfSome old.content (λ f. mid.content ≡ Some (patch f (gate + 1) bytes)) → IfSome mid.content (λ f. new.content ≡ Some (patch f gate (0xa7 ∷ [])))
        → (f : Image) → old.content ≡ Some f → new.content ≡ Some (patch f gate (0xa7 ∷ bytes))
    all_content written raised f exposed =
        let there : mid.content ≡ Some (patch f (gate + 1) bytes) = at_told old.content (λ f. mid.content ≡ Some (patch f (gate + 1) bytes)) f exposed written in
        at_told mid.content (λ f. new.content ≡ Some (patch f gate (0xa7 ∷ []))) (patch f (gate + 1) bytes) there raised
        ∙ ap (λ (d : Image). Some d) (patched_one f gate 0xa7 bytes)

pub failed : {T E : Type 0} (old new : DiskView) (gate : ℕ) (bytes : List ℕ) (r : Result T E) → TearsOnly old new gate (1 + length bytes) → Passes old new
    → ((f : Image) → old.content ≡ Some f → (c : Image) → Since new old.moment c → BehindOrRaised old f gate bytes c) → IsErr r → Raises old new gate bytes r
failed old new gate bytes r tears passes each err = record {
  images = tears;
  time = passes;
  any_moment = each;
  content = IfOk-from_err r (λ _. (f : Image) → old.content ≡ Some f → new.content ≡ Some (patch f gate (0xa7 ∷ bytes))) err;
  settled = IfOk-from_err r (λ _. IsDurable new) err;
}
