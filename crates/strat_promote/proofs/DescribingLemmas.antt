-- Descriptors of arrays, made one after the other.
use Rattle.std.proofs.Common.{◌≡◌, ◌≤◌, ◌<◌, ◌+◌, ◌++◌, ◌∷◌, [], ℕ, zero, suc, inl, inr, List, map, length, get_or, set, None, Some, refl, sym, ap, ◌∙◌, subst, arith}
use Rattle.std.specs.List.{range_with_len, slice_get}
use Rattle.std.proofs.lemmas.Bool.{cases_lt}
use Rattle.std.proofs.lemmas.List.{length_push, length-set, get_or-set_other}
use Rattle.std.proofs.lemmas.List.FromFn.{length-map-range_with_len, get_or-map-range_with_len}
use Rattle.strat_array.specs.Progress.{ArrayProgress}
use Rattle.strat_array.specs.Pushed.{AreMaximal}
use Rattle.strat_array.specs.Within.{AreWithin}
use Rattle.strat_base.specs.declared.descriptors.ArrayDesc.{ArrayDesc}
use Rattle.def_split.specs.Plan.{Plan, members}
use Rattle.def_split.specs.Plan as defined
use Rattle.strat_split.specs.PlanSeen.{part_seen, plan_seen}
use Rattle.strat_split.specs.declared.parts.Part.{Part}
use Rattle.strat_split.specs.declared.parts.Plan as made
use Rattle.strat_promote.specs.Closing.{IsDescriptor}

-- the writers below a number are described, and of the others the versions are left
pub record AreDescribing (plan : Plan) (q : ℕ) (writers : List ArrayProgress) (tags : List (List ℕ)) (arrays : List ArrayDesc) : Type 0 where
  pub len : length arrays ≡ q
  pub each : (r : ℕ) (w : ArrayProgress) → r < q → slice_get writers r ≡ Some w → (a : ArrayDesc) × (slice_get arrays r ≡ Some a) × IsDescriptor plan r w a
  pub tagged : length tags ≡ length plan.parts
  pub left : (r : ℕ) → q ≤ r → r < length plan.parts → get_or tags r [] ≡ members plan r

pub none_described : (plan : Plan) (writers : List ArrayProgress) (tags : List (List ℕ)) (arrays : List ArrayDesc) (n : ℕ) → n ≡ length plan.parts
    → tags ≡ map (members plan) (range_with_len 0 n) → arrays ≡ [] → AreDescribing plan 0 writers tags arrays
none_described plan writers tags arrays n parts all none = record {
  len = ap (λ (ds : List ArrayDesc). length ds) none;
  each = λ r w lt at. absurd (omega arith);
  tagged = ap (λ (ts : List (List ℕ)). length ts) all ∙ length-map-range_with_len (members plan) 0 n ∙ parts;
  left = λ r le lt. ap (λ (ts : List (List ℕ)). get_or ts r []) all ∙ get_or-map-range_with_len (members plan) 0 n r r [] (omega (arith, lt, parts)) (omega arith);
}

get_front : {X : Type 0} (xs : List X) (y x : X) (r : ℕ) → slice_get xs r ≡ Some x → slice_get (xs ++ y ∷ []) r ≡ Some x
get_front [] y x r e = absurd (cc)
get_front (z ∷ xs) y x zero e = e
get_front (z ∷ xs) y x (suc r) e = get_front xs y x r e

get_last : {X : Type 0} (xs : List X) (y : X) → slice_get (xs ++ y ∷ []) (length xs) ≡ Some y
get_last [] y = refl
get_last (z ∷ xs) y = get_last xs y

pub one_described : (plan : Plan) (q : ℕ) (writers : List ArrayProgress) (tags : List (List ℕ)) (arrays more : List ArrayDesc) (w : ArrayProgress) (a : ArrayDesc) (rest : List ℕ)
    → AreDescribing plan q writers tags arrays → slice_get writers q ≡ Some w → IsDescriptor plan q w a → more ≡ arrays ++ a ∷ []
    → AreDescribing plan (q + 1) writers (set tags q rest) more
one_described plan q writers tags arrays more w a rest so_far at is pushed = subst (λ (ds : List ArrayDesc). AreDescribing plan (q + 1) writers (set tags q rest) ds) (sym pushed) (record {
  len = length_push arrays a ∙ ap (λ (n : ℕ). n + 1) so_far.len;
  each = λ r y lt there.
      elim (cases_lt r q) [
        | inl before ↦ let was = so_far.each r y before there in (was.0, get_front arrays a was.0 r was.1, was.2)
        | inr behind ↦
            let same : r ≡ q = omega arith in
            let both : Some y ≡ Some w = sym there ∙ ap (slice_get writers) same ∙ at in
            let e : w ≡ y = cc in (
              a,
              ap (slice_get (arrays ++ a ∷ [])) (same ∙ sym so_far.len) ∙ get_last arrays a,
              subst (λ (p : ArrayProgress). IsDescriptor plan r p a) e (subst (λ (i : ℕ). IsDescriptor plan i w a) (sym same) is),
            )
      ];
  tagged = length-set tags q rest ∙ so_far.tagged;
  left = λ r le lt. get_or-set_other tags q r rest [] (omega arith) ∙ so_far.left r (omega arith) lt;
})

part_read : (parts : List Part) (q : ℕ) (part : Part) (d : defined.Part) → q < length parts → part ≡ get_or parts q part → get_or (map part_seen parts) q d ≡ part_seen part
part_read [] q part d lt is = absurd (omega arith)
part_read (p ∷ parts) zero part d lt is = ap part_seen (sym is)
part_read (p ∷ parts) (suc q) part d lt is = part_read parts q part d (omega arith) is

-- a descriptor that was made of a writer, a part and its versions
pub described : (plan : made.Plan) (q : ℕ) (w : ArrayProgress) (part : Part) (tag : List ℕ) (a : ArrayDesc) → q < length plan.parts → part ≡ get_or plan.parts q part
    → tag ≡ members (plan_seen plan) q → (a.id ≡ w.id) × (a.entries ≡ w.count) × (a.leads ≡ part.leads) × (a.least ≡ part.least) × (a.versions ≡ tag)
    → a.extents ≡ w.extents → AreMaximal a.extents → AreWithin a.extents → IsDescriptor (plan_seen plan) q w a
described plan q w part tag a lt read versions fields extents maximal within =
    let at = part_read plan.parts q part (record { above = None; leads = 0; entries = 0; least = 0 }) lt read in
    record {
      id = fields.0;
      entries = fields.1;
      extents = extents;
      leads = fields.2 ∙ sym (ap (λ (p : defined.Part). p.leads) at);
      least = fields.3 ∙ sym (ap (λ (p : defined.Part). p.least) at);
      versions = fields.4 ∙ versions;
      maximal = maximal;
      within = within;
    }
