-- What is shut when gates are closed one after the other, and what a crash leaves of the slots meanwhile.
use Rattle.std.proofs.Common.{◌≡◌, ◌≢◌, ◌≤◌, ℕ, ◌-◌, inl, inr, [], ◌∷◌, get_or, Some, IfSome, sym, ap, ◌∙◌, arith}
use Rattle.def_crash.specs.Image.{Image, Outside, patch}
use Rattle.def_bytes.specs.Layout.{region_at}
use Rattle.def_crash.specs.Moments.{DiskView, Images, Since, Passes, TearsOnly, KeepsImages}
use Rattle.def_crash.proofs.ImageLemmas.{below, inside, above, lies, over_below, over_inside, over_above}
use Rattle.def_crash.proofs.MomentLemmas.{now_since_start, each_then, at_told}
use Rattle.strat_gate.specs.Gates.{EndsShut}
use Rattle.strat_open.specs.Format.{IsBlank, IsShut}

-- over a call each image has both slots shut
pub record StaysBlank (old new : DiskView) : Type 0 where
  pub each : (c : Image) → Since new old.moment c → (c 0 ≢ 0xa7) × (c 4096 ≢ 0xa7)

-- a view tells its content, in which the gate at a place is shut, and so is each place that was no open gate before
pub record Shuts (f : Image) (at : ℕ) (v : DiskView) : Type 0 where
  pub content : Image
  pub exposed : v.content ≡ Some content
  pub shut : content at ≢ 0xa7
  pub kept : (i : ℕ) → f i ≢ 0xa7 → content i ≢ 0xa7

-- after a gate was closed it is shut, and no other was opened
pub shuts : (f : Image) (at : ℕ) (old new : DiskView) → EndsShut f at old new → Shuts f at new
shuts f at old new (inl alone) = record { content = f; exposed = alone.1; shut = alone.0; kept = λ i down. down }
shuts f at old new (inr written) = record {
  content = patch f at (0 ∷ []);
  exposed = written.0;
  shut = λ up. let none : patch f at (0 ∷ []) at ≡ 0 = zero_at in absurd (omega (arith, none, up));
  kept = λ i down up. elim (lies at 1 i) [
    | below is ↦ down (sym (over_below at 1 _ f i is) ∙ up)
    | inside from to ↦
        let here : i ≡ at = omega arith in
        let none : patch f at (0 ∷ []) i ≡ 0 = ap (patch f at (0 ∷ [])) here ∙ zero_at in
        absurd (omega (arith, none, up))
    | above is ↦ down (sym (over_above at 1 _ f i is) ∙ up)
  ];
}
  where
    zero_at : patch f at (0 ∷ []) at ≡ 0
    zero_at =
        let e : at - at ≡ 0 = omega arith in
        over_inside at 1 (λ i. get_or (0 ∷ []) (i - at) 0) f at (omega arith) (omega arith) ∙ ap (λ (k : ℕ). get_or (0 ∷ []) k 0) e

-- both slots are shut at the end of a call over which they stay so
pub blank_now : (old new : DiskView) → Passes old new → StaysBlank old new → IsBlank new
blank_now old new passes stays = record {
  first = λ c left. (stays.each c (now_since_start old new c passes left)).0;
  second = λ c left. (stays.each c (now_since_start old new c passes left)).1;
}

-- two calls, one behind the other
pub blank_then : (old mid new : DiskView) → Passes old mid → Passes mid new → StaysBlank old mid → (IsBlank mid → StaysBlank mid new) → StaysBlank old new
blank_then old mid new first second before after = record {
  each = each_then mid new old.moment (λ c. (c 0 ≢ 0xa7) × (c 4096 ≢ 0xa7)) second before.each (after (blank_now old mid first before)).each;
}

-- a call that leaves the images alone
pub blank_leaves : (old new : DiskView) → IsBlank old → KeepsImages old new → StaysBlank old new
blank_leaves old new blank leaves = record { each = λ c since. (blank.first c (leaves.each c since), blank.second c (leaves.each c since)) }

-- a call that tears bytes behind the slots
pub blank_behind : (old new : DiskView) (at n : ℕ) → 8192 ≤ at → IsBlank old → TearsOnly old new at n → StaysBlank old new
blank_behind old new at n behind blank tears = record {
  each = λ c since.
      let torn = tears.each c since in
      let out : Outside at n torn.0 c = torn.2 in
      (λ up. blank.first torn.0 torn.1 (sym (out.below 0 (omega arith)) ∙ up), λ up. blank.second torn.0 torn.1 (sym (out.below 4096 (omega arith)) ∙ up));
}

-- the content of a blank disk has both slots shut, since a crash may leave it
pub blank_content : (v : DiskView) (f : Image) → IfSome v.content (Images v) → v.content ≡ Some f → IsBlank v → (f 0 ≢ 0xa7) × (f 4096 ≢ 0xa7)
blank_content v f leaves exposed blank =
    let left : Images v f = at_told v.content (Images v) f exposed leaves in
    (blank.first f left, blank.second f left)

-- the first slot's gate is closed
pub blank_first : (old new : DiskView) (f : Image) → IfSome old.content (Images old) → old.content ≡ Some f → (f 0 ≢ 0xa7 → KeepsImages old new) → IsBlank old → StaysBlank old new
blank_first old new f leaves exposed alone blank = blank_leaves old new blank (alone (blank_content old f leaves exposed blank).0)

-- the second slot's gate is closed
pub blank_second : (old new : DiskView) (f : Image) → IfSome old.content (Images old) → old.content ≡ Some f → (f 4096 ≢ 0xa7 → KeepsImages old new) → IsBlank old → StaysBlank old new
blank_second old new f leaves exposed alone blank = blank_leaves old new blank (alone (blank_content old f leaves exposed blank).1)

-- four gates were closed, one behind the other
pub all_shut : (mem : ℕ) (f : Image) (v1 v2 v3 v4 : DiskView) (first : Shuts f 0 v1) (second : Shuts first.content 4096 v2)
    (active : Shuts second.content (region_at mem 0) v3) → Shuts active.content (region_at mem 1) v4 → IsShut mem v4
all_shut mem f v1 v2 v3 v4 first second active other = record {
  content = other.content;
  exposed = other.exposed;
  first = other.kept 0 (active.kept 0 (second.kept 0 first.shut));
  second = other.kept 4096 (active.kept 4096 second.shut);
  active = other.kept (region_at mem 0) active.shut;
  other = other.shut;
}
