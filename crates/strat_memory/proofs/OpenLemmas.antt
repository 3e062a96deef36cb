-- A promotion that a store has open: what it needs of the store, and of the disk, from one change to the next.
use Rattle.std.proofs.Common.{◌≡◌, ◌≤◌, ◌+◌, ◌-◌, ◌*◌, ℕ, zero, suc, inl, inr, List, ◌∷◌, [], ◌++◌, length, Contains, Option, None, Some, refl, sym, ap, ◌∙◌, subst, arith}
use Rattle.std.specs.Prelude.{IfSome}
use Rattle.std.proofs.lemmas.Grind.{flat_map-append}
use Rattle.std.proofs.lemmas.List.{append_assoc, length-append}
use Rattle.std.proofs.lemmas.List.Elements.{Contains-append_left}
use Rattle.std.proofs.Math.Nat.{mul-le-mul_left}
use Rattle.strat_array.specs.Kept.{Blocks}
use Rattle.strat_base.specs.Change.{Change}
use Rattle.strat_base.specs.declared.descriptors.ArrayDesc.{ArrayDesc}
use Rattle.strat_base.specs.declared.descriptors.LevelDesc.{LevelDesc}
use Rattle.def_crash.specs.Blocks.{AgreeOn}
use Rattle.def_crash.specs.Image.{Image}
use Rattle.strat_extent.specs.Blocks.{times_in}
use Rattle.def_bytes.specs.Arrays.{blocks_of}
use Rattle.strat_promote.proofs.WrittenLemmas.{read_stays}
use Rattle.strat_promote.specs.InputFields.{input_seen}
use Rattle.strat_promote.specs.InputLaw.{input_law}
use Rattle.strat_promote.specs.Job.{Job, arrays_to, blocks_listed}
use Rattle.strat_promote.specs.Promotions.{HasBegun, ReadsOf, target_of}
use Rattle.strat_promote.specs.Stages.{IsReadOf, IsUnderway}
use Rattle.strat_promote.specs.declared.promotion.Promotion.{Promotion}
use Rattle.strat_promote.specs.declared.stage.Stage.{Stage}
use Rattle.strat_promote.specs.declared.stage.Stage.TheVariants as stage
use Rattle.def_slice.proofs.OpenedLemmas.{appended_open, change_goes}
use Rattle.def_slice.specs.Budget.{EndsInTime, changes_left}
use Rattle.def_slice.specs.Opened.{IsOpenOver, KeepsBehind, OpenPromotion}
use Rattle.def_publish.specs.Appending.{with_batch}
use Rattle.def_publish.specs.Contents.{Contents}
use Rattle.def_publish.specs.Occupied.{extents_of}
use Rattle.def_publish.specs.Standing.{ReadsAs}
use Rattle.strat_cursor.specs.Looking.{arrays_there}
use Rattle.strat_memory.specs.Held.{HasReadFrom, Held, IsOpenAt, MayGoOnWith}
use Rattle.strat_memory.specs.Memory.{Memory}

-- a store after some changes were appended, with other memory, promotion and blocks cached
abbrev pub with_changes : Held → List Change → Memory → Option OpenPromotion → Blocks → Held
with_changes s batch m p cached =
    record s { log = record s.log { list = s.log.list ++ batch }; memory = m; promoting = p; cached = cached }

-- a promotion may go on where memory has the same sealed and no more arrays are kept for cursors
pub still_going : (s : Held) (m : Memory) (p : Option OpenPromotion) (cached : Blocks) (o : OpenPromotion) → m.sealed ≡ s.memory.sealed
    → ((b : ℕ) → times_in (extents_of m.cursors.retired) b ≤ times_in (extents_of s.memory.cursors.retired) b) → MayGoOnWith s o
    → MayGoOnWith (record s { memory = m; promoting = p; cached = cached }) o
still_going s m p cached o same fewer going = record {
  sealed = going.sealed;
  sealed_is = same ∙ going.sealed_is;
  sliced = going.sliced;
  first = going.first;
  apart = λ b. let all = going.apart b in omega (arith, all, fewer b);
}

-- and over what a store holds after some changes
pub changed_going : (s : Held) (batch : List Change) (m : Memory) (p : Option OpenPromotion) (cached : Blocks) (o : OpenPromotion) → m.sealed ≡ s.memory.sealed
    → m.cursors.retired ≡ s.memory.cursors.retired → MayGoOnWith s o → MayGoOnWith (with_changes s batch m p cached) o
changed_going s batch m p cached o same kept going = record {
  sealed = going.sealed;
  sealed_is = same ∙ going.sealed_is;
  sliced = λ on. let m = going.sliced on in change_goes _ batch m.begun.full going.sealed.entries s.levels o m;
  first = going.first;
  apart = λ b. let all = going.apart b in omega (arith, all, ap (λ (rs : List ArrayDesc). times_in (extents_of rs) b) kept);
}

-- it is open as it was
pub still_open : (f : Image) (s : Held) (x : Contents) (fill : ℕ) (m : Memory) (p : Option OpenPromotion) (cached : Blocks) (o : OpenPromotion) → m.sealed ≡ s.memory.sealed → IsOpenAt f s x fill o
    → IsOpenAt f (record s { memory = m; promoting = p; cached = cached }) x fill o
still_open f s x fill m p cached o same at = record {
  sealed = at.sealed;
  sealed_is = same ∙ at.sealed_is;
  others = at.others;
  over = at.over;
  room = at.room;
}

-- after a change, for which it was on time
pub changed_open : (f g : Image) (s : Held) (x : Contents) (change : Change) (m : Memory) (p : Option OpenPromotion) (cached : Blocks) (o : OpenPromotion) → ReadsAs f x → length x.journal ≡ length s.log.list
    → m.sealed ≡ s.memory.sealed → KeepsBehind x.sb.mem f g → IsOpenAt f s x (length s.log.list + 1) o
    → IsOpenAt g (with_changes s (change ∷ []) m p cached) (with_batch x (change ∷ [])) (length (s.log.list ++ change ∷ [])) o
changed_open f g s x change m p cached o reads long same keeps at =
    let here : IsOpenOver f x (length x.journal + 1) at.sealed.entries s.levels at.others o = subst (λ (n : ℕ). IsOpenOver f x (n + 1) at.sealed.entries s.levels at.others o) (sym long) at.over in
    let next = appended_open f g x at.sealed.entries s.levels at.others o change reads here keeps in
    let end : length (with_batch x (change ∷ [])).journal ≡ length (s.log.list ++ change ∷ []) = omega (arith, long, length-append x.journal (change ∷ []), length-append s.log.list (change ∷ [])) in
    record {
      sealed = at.sealed;
      sealed_is = same ∙ at.sealed_is;
      others = at.others;
      over = subst (λ (n : ℕ). IsOpenOver g (with_batch x (change ∷ [])) n at.sealed.entries s.levels at.others o) end next;
      room = at.room;
    }

-- one that is on time after a change is so before it
less_due : (mem fill sum b taken : ℕ) → EndsInTime mem (fill + 1) sum b taken → EndsInTime mem fill sum b taken
less_due mem fill sum b taken (inr all) = inr all
less_due mem fill sum b taken (inl on) =
    let fewer : changes_left mem (fill + 1) ≤ changes_left mem fill = omega arith in
    let more = mul-le-mul_left {m = changes_left mem (fill + 1)} {n = changes_left mem fill} b fewer in
    inl (omega (arith, on, more))

pub less_full : (f : Image) (s : Held) (x : Contents) (fill : ℕ) (o : OpenPromotion) → IsOpenAt f s x (fill + 1) o → IsOpenAt f s x fill o
less_full f s x fill o at =
    let over = at.over in
    record {
      sealed = at.sealed;
      sealed_is = at.sealed_is;
      others = at.others;
      over = record { going = over.going; underway = over.underway; space_is = over.space_is; sum_is = over.sum_is; on_time = less_due x.sb.mem fill o.sum o.budget _ over.on_time };
      room = at.room;
    }

-- what it has read of arrays stays so where these keep their blocks
stage_reads : (f g : Image) (arrays : List ArrayDesc) (st : Stage) → AgreeOn (blocks_listed arrays) f g → IsReadOf f arrays st → IsReadOf g arrays st
stage_reads f g arrays stage.Begun agree read = read
stage_reads f g arrays (stage.Counting c) agree read = read_stays f g input_seen input_law arrays c.merger.runs.items agree read
stage_reads f g arrays (stage.Writing w before) agree read = read_stays f g input_seen input_law arrays w.merger.runs.items agree read

pub reads_stay : (f g : Image) (arrays : List ArrayDesc) (p : Promotion) → AgreeOn (blocks_listed arrays) f g → ReadsOf f arrays p → ReadsOf g arrays p
reads_stay f g arrays p agree read = stage_reads f g arrays p.stage agree read

-- the arrays of the levels down to a number stand in front of the others
pub to_front : (levels : List (Option LevelDesc)) (j : ℕ) → (rest : List ArrayDesc) × (arrays_there levels ≡ arrays_to levels j ++ rest)
to_front [] zero = ([], refl)
to_front [] (suc j) = ([], refl)
to_front (level ∷ levels) zero = (arrays_there (level ∷ levels), refl)
to_front (None ∷ levels) (suc j) = to_front levels j
to_front (Some level ∷ levels) (suc j) =
    let one = to_front levels j in
    (one.0, ap (λ (ds : List ArrayDesc). level.arrays ++ ds) one.1 ∙ sym (append_assoc level.arrays (arrays_to levels j) one.0))

pub array_there : (levels : List (Option LevelDesc)) (j : ℕ) (a : ArrayDesc) → Contains (arrays_to levels j) a → Contains (arrays_there levels) a
array_there levels j a of =
    let front = to_front levels j in
    subst (λ (ds : List ArrayDesc). Contains ds a) (sym front.1) (Contains-append_left (arrays_to levels j) front.0 a of)

pub blocks_front : (levels : List (Option LevelDesc)) (j : ℕ) → (rest : List ℕ) × (blocks_listed (arrays_there levels) ≡ blocks_listed (arrays_to levels j) ++ rest)
blocks_front levels j =
    let front = to_front levels j in
    (blocks_listed front.0, ap blocks_listed front.1 ∙ flat_map-append (λ (a : ArrayDesc). blocks_of a.extents) (arrays_to levels j) front.0)

pub block_there : (levels : List (Option LevelDesc)) (j b : ℕ) → Contains (blocks_listed (arrays_to levels j)) b → Contains (blocks_listed (arrays_there levels)) b
block_there levels j b of =
    let front = blocks_front levels j in
    subst (λ (bs : List ℕ). Contains bs b) (sym front.1) (Contains-append_left (blocks_listed (arrays_to levels j)) front.0 b of)

-- so what a promotion has read stays where the arrays of the levels do
pub agree_read : (f g : Image) (s : Held) → AgreeOn (blocks_listed (arrays_there s.levels)) f g → HasReadFrom f s → HasReadFrom g s
agree_read f g s agree read = by s.promoting read
  where
    by : (p : Option OpenPromotion) → IfSome p (λ o. ReadsOf f (arrays_to s.levels (target_of o.promotion)) o.promotion) → IfSome p (λ o. ReadsOf g (arrays_to s.levels (target_of o.promotion)) o.promotion)
    by None was = tt
    by (Some o) was = reads_stay f g (arrays_to s.levels (target_of o.promotion)) o.promotion (λ b of. agree b (block_there s.levels (target_of o.promotion) b of)) was

-- and one that is underway has read its arrays
stage_read : (f : Image) (job : Job) (first : ℕ) (st : Stage) → IsUnderway f job first st → IsReadOf f job.arrays st
stage_read f job first stage.Begun underway = tt
stage_read f job first (stage.Counting c) underway = underway.runs.read
stage_read f job first (stage.Writing w before) underway = underway.0.runs.read

pub begun_reads : (f : Image) (job : Job) (p : Promotion) → HasBegun f job p → ReadsOf f job.arrays p
begun_reads f job p begun = stage_read f job p.task.first p.stage begun
