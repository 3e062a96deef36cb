-- Filters of the arrays that a promotion makes.
use Rattle.std.proofs.Common.{◌≡◌, ◌<◌, ◌≤◌, ◌+◌, ◌-◌, ◌++◌, ℕ, zero, suc, Bool, List, [], ◌∷◌, length, map, set, Option, None, Some, refl, sym, ap, ◌∙◌, subst, arith}
use Rattle.std.specs.List.{slice_get, Contains}
use Rattle.std.specs.Option.{IfSome}
use Rattle.std.proofs.lemmas.Option.{slice_get_read, slice_get_within}
use Rattle.strat_array.specs.Progress.{ArrayProgress}
use Rattle.strat_base.specs.Entries.{Entry}
use Rattle.strat_base.specs.declared.descriptors.ArrayDesc.{ArrayDesc}
use Rattle.strat_base.specs.declared.descriptors.Extent.{Extent}
use Rattle.strat_base.specs.declared.descriptors.LevelDesc.{LevelDesc}
use Rattle.def_crash.specs.Image.{Image}
use Rattle.def_crash.specs.Moments.{DiskView, Exposes}
use Rattle.def_bytes.specs.Arrays.{blocks_of, entries_on}
use Rattle.def_split.specs.Plan.{Plan}
use Rattle.strat_filter.specs.Keys.{IsFilterOf}
use Rattle.strat_merge.specs.Runs.{RunView}
use Rattle.strat_split.specs.PlanSeen.{plan_seen}
use Rattle.strat_promote.specs.Closing.{AreSealed, IsDescribed, all_extents}
use Rattle.strat_promote.specs.Filters.{AreFiltered, filter_kept, without_filter}
use Rattle.strat_promote.specs.Job.{Job, groups_kept, part_content}
use Rattle.strat_promote.specs.Opening.{arrays_if_any}
use Rattle.strat_promote.specs.Owned.{OwnsItsBlocks}
use Rattle.strat_promote.specs.Written.{IsAllWritten}
use Rattle.strat_promote.specs.declared.second_pass.Writing.{Writing}
use Rattle.strat_promote.proofs.MadeLemmas.{there_at}

-- what is known of a filter of an array
abbrev IsOf : Image → ArrayDesc → List Bool → Type 0
IsOf g a bits = (es : List Entry) → entries_on g (blocks_of a.extents) ≡ Some es → IsFilterOf bits es

-- past the last writer no filter is kept
pub none_past : (writers : List ArrayProgress) (q : ℕ) → length writers ≤ q → None ≡ filter_kept writers q
none_past [] q past = refl
none_past (w ∷ writers) zero past = absurd (omega (arith, past))
none_past (w ∷ writers) (suc q) past = none_past writers q (omega (arith, past))

pub same_past : (writers : List ArrayProgress) (q : ℕ) → length writers ≤ q → writers ≡ without_filter writers q
same_past [] q past = refl
same_past (w ∷ writers) zero past = absurd (omega (arith, past))
same_past (w ∷ writers) (suc q) past = ap (λ (ws : List ArrayProgress). w ∷ ws) (same_past writers q (omega (arith, past)))

-- the filter of a writer at its place
pub kept_at : (writers : List ArrayProgress) (q : ℕ) (w : ArrayProgress) → slice_get writers q ≡ Some w → filter_kept writers q ≡ w.filter
kept_at [] q w e = absurd (cc)
kept_at (x ∷ writers) zero w e = let same : x ≡ w = cc in ap (λ (y : ArrayProgress). y.filter) same
kept_at (x ∷ writers) (suc q) w e = kept_at writers q w e

-- it is taken
pub set_without : (writers : List ArrayProgress) (q : ℕ) (w x : ArrayProgress) → slice_get writers q ≡ Some w → x ≡ record w { filter = None } → set writers q x ≡ without_filter writers q
set_without [] q w x e is = absurd (cc)
set_without (y ∷ writers) zero w x e is =
    let both : Some y ≡ Some w = e in
    let same : w ≡ y = cc in
    ap (λ (z : ArrayProgress). z ∷ writers) (is ∙ ap (λ (z : ArrayProgress). record z { filter = None }) same)
set_without (y ∷ writers) (suc q) w x e is = ap (λ (ws : List ArrayProgress). y ∷ ws) (set_without writers q w x e is)

-- writers of which one keeps no filter have the same blocks
all_without : (writers : List ArrayProgress) (q : ℕ) → all_extents (without_filter writers q) ≡ all_extents writers
all_without [] q = refl
all_without (w ∷ writers) zero = refl
all_without (w ∷ writers) (suc q) = ap (λ (xs : List Extent). w.extents ++ xs) (all_without writers q)

each_without : (writers : List ArrayProgress) (q : ℕ) → map (λ (w : ArrayProgress). w.extents) (without_filter writers q) ≡ map (λ (w : ArrayProgress). w.extents) writers
each_without [] q = refl
each_without (w ∷ writers) zero = refl
each_without (w ∷ writers) (suc q) = ap (λ (xs : List (List Extent)). w.extents ∷ xs) (each_without writers q)

-- and no other filter
kept_without : (P : List Bool → Type 0) (writers : List ArrayProgress) (q r : ℕ) → IfSome (filter_kept writers r) P → IfSome (filter_kept (without_filter writers q) r) P
kept_without P [] q r is = is
kept_without P (w ∷ writers) zero zero is = tt
kept_without P (w ∷ writers) zero (suc r) is = is
kept_without P (w ∷ writers) (suc q) zero is = is
kept_without P (w ∷ writers) (suc q) (suc r) is = kept_without P writers q r is

pub same_blocks : (writers now : List ArrayProgress) (q : ℕ) → now ≡ without_filter writers q → all_extents now ≡ all_extents writers
same_blocks writers now q is = ap all_extents is ∙ all_without writers q

pub still_owned : (writers now : List ArrayProgress) (q : ℕ) (made : Option LevelDesc) → now ≡ without_filter writers q → OwnsItsBlocks writers made → OwnsItsBlocks now made
still_owned writers now q made is owns = record {
  owned = owns.owned ∙ sym (ap (λ (ws : List ArrayProgress). map (λ (w : ArrayProgress). w.extents) ws) is ∙ each_without writers q);
  each = owns.each;
}

pub still_filtered : (g : Image) (first : ℕ) (writers now : List ArrayProgress) (q : ℕ) (made : Option LevelDesc) → now ≡ without_filter writers q → AreFiltered g first writers made → AreFiltered g first now made
still_filtered g first writers now q made is filtered = subst (λ (ws : List ArrayProgress). AreFiltered g first ws made) (sym is) (record {
  numbered = filtered.numbered;
  each = λ r a there. kept_without (IsOf g a) writers q r (filtered.each r a there);
})

-- a filter that is taken by the number of its array is that array's
pub filter_found : (g : Image) (first : ℕ) (writers : List ArrayProgress) (made : Option LevelDesc) (id : ℕ) (bits : List Bool) (a : ArrayDesc) (es : List Entry) → first ≤ id
    → filter_kept writers (id - first) ≡ Some bits → AreFiltered g first writers made → Contains (arrays_if_any made) a → a.id ≡ id → entries_on g (blocks_of a.extents) ≡ Some es → IsFilterOf bits es
filter_found g first writers made id bits a es le kept filtered (k, lt, at) named on =
    let there : slice_get (arrays_if_any made) k ≡ Some a = slice_get_read (arrays_if_any made) _ k a refl lt (sym at) in
    let number = filtered.numbered k a there in
    let same : id - first ≡ k = omega (arith, number, named, le) in
    let here : filter_kept writers k ≡ Some bits = ap (filter_kept writers) (sym same) ∙ kept in
    (subst (λ (o : Option (List Bool)). IfSome o (IsOf g a)) here (filtered.each k a there)) es on

-- a filter of what was pushed is one of what blocks have that have it
filter_of_blocks : (g : Image) (filter : Option (List Bool)) (a : ArrayDesc) (content : List Entry) → entries_on g (blocks_of a.extents) ≡ Some content → IfSome filter (λ bits. IsFilterOf bits content)
    → IfSome filter (IsOf g a)
filter_of_blocks g None a content on of = tt
filter_of_blocks g (Some bits) a content on of = λ es there.
    let both : Some content ≡ Some es = sym on ∙ there in
    let same : content ≡ es = cc in
    subst (IsFilterOf bits) same of

module _ {R : Type 0} (view : R → RunView) (f g : Image) (disk now : DiskView) (job : Job) (first : ℕ) (w : Writing R) (new : List ArrayProgress)
    (written : IsAllWritten view f job first w) (sealed : AreSealed disk now w.filling.writers.items new) (told : Exposes disk f) (tells : Exposes now g)
    (len : length new ≡ length w.filling.writers.items) where
  -- a writer that is sealed keeps the filter of what its blocks have, and its number counts from the first
  sealed_one : (q : ℕ) (x : ArrayProgress) → slice_get new q ≡ Some x
      → (x.id ≡ first + q) × ((a : ArrayDesc) → a.extents ≡ x.extents → IfSome x.filter (IsOf g a))
  sealed_one q x there =
      let within : q < length w.filling.writers.items = subst (λ (n : ℕ). q < n) len (slice_get_within new q x there) in
      let old = there_at w.filling.writers.items q within in
      let is = sealed.each q old.0 old.1 in
      let same : is.0 ≡ x = (let e = sym is.1 ∙ there in cc) in
      let pushed = written.content.each q old.0 old.1 in
      let content = part_content job.parents (plan_seen w.filling.plan) (groups_kept job written.all) q in
      let on : entries_on g (blocks_of is.0.extents) ≡ Some content = is.4 f g _ told tells pushed.1 in (
        ap (λ (y : ArrayProgress). y.id) (sym same) ∙ is.2 ∙ pushed.0,
        λ a blocks.
            let here : entries_on g (blocks_of a.extents) ≡ Some content =
            ap (λ (xs : List Extent). entries_on g (blocks_of xs)) (blocks ∙ ap (λ (y : ArrayProgress). y.extents) (sym same)) ∙ on in
            let filter : old.0.filter ≡ x.filter = sym is.5 ∙ ap (λ (y : ArrayProgress). y.filter) same in
            subst (λ (o : Option (List Bool)). IfSome o (IsOf g a)) filter (filter_of_blocks g old.0.filter a content here pushed.1.filter),
      )

  -- the same of the arrays that are described
  pub sealed_filters : (plan : Plan) (number : ℕ) (made : Option LevelDesc) → IsDescribed plan number new made → AreFiltered g first new made
  sealed_filters plan number None described = record { numbered = λ q a there. absurd (cc); each = λ q a there. absurd (cc) }
  sealed_filters plan number (Some level) described = record {
    numbered = λ q a there.
        let one = described_one q a there in
        one.2 ∙ (sealed_one q one.0 one.1).0;
    each = λ q a there.
        let one = described_one q a there in
        subst (λ (o : Option (List Bool)). IfSome o (IsOf g a)) (sym (kept_at new q one.0 one.1)) ((sealed_one q one.0 one.1).1 a one.3);
  }
    where
      described_one : (q : ℕ) (a : ArrayDesc) → slice_get level.arrays q ≡ Some a → (x : ArrayProgress) × (slice_get new q ≡ Some x) × (a.id ≡ x.id) × (a.extents ≡ x.extents)
      described_one q a there =
          let within : q < length new = subst (λ (n : ℕ). q < n) described.len (slice_get_within level.arrays q a there) in
          let x = there_at new q within in
          let d = described.each q x.0 x.1 in
          let same : d.0 ≡ a = (let e = sym d.1 ∙ there in cc) in
          (x.0, x.1, ap (λ (b : ArrayDesc). b.id) (sym same) ∙ d.2.id, ap (λ (b : ArrayDesc). b.extents) (sym same) ∙ d.2.extents)
