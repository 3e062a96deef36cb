-- Changes that join the journal of contents.
use Rattle.std.proofs.Common.{◌≡◌, ◌≤◌, ◌<◌, ◌+◌, ◌-◌, ◌*◌, ℕ, zero, suc, Bool, cond, ltb, true, false, inl, inr, List, [], ◌∷◌, ◌++◌, drop, length, Some, refl, sym, ap, ◌∙◌, subst, arith, length-append}
use Rattle.std.specs.List.{list_all}
use Rattle.std.proofs.lemmas.Bool.{and_from, and_parts, lt-ltb, ltb-false, ltb-true}
use Rattle.std.proofs.lemmas.List.{length-drop}
use Rattle.std.proofs.lemmas.List.Folds.{list_all-append}
use Rattle.strat_base.specs.Change.{Change, is_lawful}
use Rattle.def_crash.specs.Blocks.{KeepsTaken}
use Rattle.def_crash.specs.Image.{Image, patch}
use Rattle.def_crash.specs.Moments.{DiskView, Exposes}
use Rattle.def_crash.specs.Trail.{Trail}
use Rattle.def_crash.proofs.ImageLemmas.{outside_patch}
use Rattle.def_bytes.specs.Layout.{first_free, other_region, region_at}
use Rattle.def_bytes.specs.Records.{records_bytes}
use Rattle.strat_journal.specs.Log.{Log, Stands, HoldsBatch, batch_joined, batch_region, behind_log, gate_in, gate_of, room_of, taking}
use Rattle.strat_journal.proofs.LaidLemmas.{length-records_bytes, region_takes}
use Rattle.strat_model.specs.Table.{Table}
use Rattle.def_meaning.specs.StateTable.{table_of}
use Rattle.def_meaning.proofs.StateTableLemmas.{stays_sound}
use Rattle.def_publish.specs.Appending.{IsLogOf, with_batch, AppendsBatch}
use Rattle.def_publish.specs.Contents.{Contents, contents_state}
use Rattle.def_publish.specs.Standing.{ShowsTable, LeavesContent, ContentsStand}
use Rattle.def_publish.proofs.AppendLemmas.{stands_journal, either_reads, either_trail, appended_trail, appended_stands}
use Rattle.def_publish.proofs.PlaceLemmas.{places}
use Rattle.def_state.specs.Sound.{IsSound, Takes}
use Rattle.def_state.specs.State.{IsPaid}
use Rattle.strat_memory.proofs.PayingLemmas.{paid_as, paid_appended, stored_since}
use Rattle.strat_memory.specs.Paying.{ArePaidSince, StoreTwoSince}
use Rattle.strat_publish.specs.Publishing.{is_in_front}
use Rattle.strat_publish.specs.Settling.{KeepSuper}

-- changes behind the first ones are lawful as all are
lawful_behind : (n : ℕ) (xs : List Change) → list_all is_lawful xs ≡ true → list_all is_lawful (drop n xs) ≡ true
lawful_behind zero xs all = all
lawful_behind (suc n) [] all = refl
lawful_behind (suc n) (x ∷ xs) all = lawful_behind n xs (and_parts (is_lawful x) (list_all is_lawful xs) all).1

-- a journal that has room for a change has it in the region that takes the next one
pub room_some : (log : Log) → length log.list < 2 * log.mem - 2 → 0 < room_of log
room_some log room = by (ltb (length log.list) log.mem) refl
  where
    by : (b : Bool) → ltb (length log.list) log.mem ≡ b → 0 < cond b (log.mem - length log.list) (2 * log.mem - 2 - length log.list)
    by true short = let low = ltb-true (length log.list) log.mem short in omega (arith, low)
    by false full = omega (arith, room)

taking_room : (log : Log) → length log.list < 2 * log.mem - 2 → length (taking log).list + 1 ≤ log.mem
taking_room log room = by (ltb (length log.list) log.mem) refl
  where
    by : (b : Bool) → ltb (length log.list) log.mem ≡ b → length (cond b log (behind_log log)).list + 1 ≤ log.mem
    by true short = let low = ltb-true (length log.list) log.mem short in omega (arith, low)
    by false full = let high = ltb-false (length log.list) log.mem full in omega (arith, high, room, length-drop log.mem log.list)

-- and one with room for a batch in the active region
pub taking_here : (log : Log) (n : ℕ) → 0 < n → length log.list + n ≤ log.mem → length (taking log).list + n ≤ log.mem
taking_here log n some few = subst (λ (b : Bool). length (cond b log (behind_log log)).list + n ≤ log.mem) (sym (lt-ltb (length log.list) log.mem (omega (arith, some, few)))) few

-- that region is one of the two
pub batch_low : (log : Log) → log.active ≤ 1 → batch_region log ≤ 1
batch_low log few = by (ltb (length log.list) log.mem)
  where
    by : (b : Bool) → cond b log.active (other_region log.active) ≤ 1
    by true = few
    by false = omega arith

-- the records of a batch behind others in a region leave alone the blocks behind the regions
batch_within : (mem region : ℕ) (list batch : List Change) (f : Image) → list_all is_lawful list ≡ true → list_all is_lawful batch ≡ true → length list + length batch ≤ mem → region ≤ 1
    → KeepsTaken (is_in_front mem) f (patch f (region_at mem region + length (records_bytes list)) (records_bytes batch ++ 0 ∷ []))
batch_within mem region list batch f old more few low b taken =
    let p = places mem region low in
    let far = ltb-false b (first_free mem) taken in
    let out = outside_patch f (region_at mem region + length (records_bytes list)) (records_bytes batch ++ 0 ∷ []) in
    let text : length (records_bytes batch ++ 0 ∷ []) ≡ length (records_bytes batch) + 1 = length-append (records_bytes batch) (0 ∷ []) in
    let one = length-records_bytes list old in
    let two = length-records_bytes batch more in
    let takes = region_takes mem in
    record { byte = λ i at high. out.above i (omega (arith, text, one, two, few, takes, p.in_front, far, at)) }

batch_behind : (log : Log) (batch : List Change) (f : Image) → list_all is_lawful (log.list ++ batch) ≡ true → length (taking log).list + length batch ≤ log.mem → log.active ≤ 1
    → KeepsTaken (is_in_front log.mem) f (patch f (gate_of log) (records_bytes batch ++ 0 ∷ []))
batch_behind log batch f lawful few active = by (ltb (length log.list) log.mem) few
  where
    both : (list_all is_lawful log.list ≡ true) × (list_all is_lawful batch ≡ true)
    both = and_parts (list_all is_lawful log.list) (list_all is_lawful batch) (sym (list_all-append is_lawful log.list batch) ∙ lawful)

    by : (b : Bool) → length (cond b log (behind_log log)).list + length batch ≤ log.mem → KeepsTaken (is_in_front log.mem) f (patch f (gate_in (cond b log (behind_log log))) (records_bytes batch ++ 0 ∷ []))
    by true room = batch_within log.mem log.active log.list batch f both.0 both.1 room active
    by false room = batch_within log.mem (other_region log.active) (drop log.mem log.list) batch f (lawful_behind log.mem log.list both.0) both.1 room (omega arith)

-- so do those that were appended
pub appended_behind : (old new : DiskView) (log : Log) → list_all is_lawful (log.list ++ log.batch) ≡ true → length (taking log).list + length log.batch ≤ log.mem → log.active ≤ 1 → HoldsBatch old new log
    → (f g : Image) → Exposes old f → Exposes new g → KeepsTaken (is_in_front log.mem) f g
appended_behind old new log lawful few active holds f g told now =
    let there : Some (patch f (gate_of log) (records_bytes log.batch ++ 0 ∷ [])) ≡ Some g = sym (holds.content f told) ∙ now in
    let written : patch f (gate_of log) (records_bytes log.batch ++ 0 ∷ []) ≡ g = cc in
    subst (λ (c : Image). KeepsTaken (is_in_front log.mem) f c) written (batch_behind log log.batch f lawful few active)

-- what each image leaves is paid for while a batch is appended, and stores at most two entries for each update
pub batch_paid : (old new : DiskView) (x : Contents) (log : Log) → ContentsStand old x → IsLogOf x log → AppendsBatch old new log → IsSound (contents_state (with_batch x log.batch)) → IsPaid (contents_state x)
    → ArePaidSince new old.moment
batch_paid old new x log s l appends sound paid c since = elim (either_reads old new x log s l appends sound c since) [
  | inl none ↦ paid_as c x none paid
  | inr all ↦ paid_as c (with_batch x log.batch) all (paid_appended x log.batch paid)
]

-- and has the superblock of the contents
pub batch_super : (old new : DiskView) (x : Contents) (log : Log) → ContentsStand old x → IsLogOf x log → AppendsBatch old new log → IsSound (contents_state (with_batch x log.batch)) → KeepSuper new old.moment x.slot x.sb
batch_super old new x log s l appends sound c since = elim (either_reads old new x log s l appends sound c since) [
  | inl none ↦ none.newest
  | inr all ↦ all.newest
]

pub batch_stored : (v : DiskView) (start : ℕ) (tables : List Table) (n : ℕ) → Trail ShowsTable v start tables n → StoreTwoSince v start
batch_stored = stored_since

-- and one change
pub logged_behind : (old new : DiskView) (log added : Log) (change : Change) → log.batch ≡ [] → added ≡ record log { batch = log.batch ++ change ∷ [] } → is_lawful change ≡ true
    → list_all is_lawful log.list ≡ true → length log.list < 2 * log.mem - 2 → log.active ≤ 1 → HoldsBatch old new added → (f g : Image) → Exposes old f → Exposes new g → KeepsTaken (is_in_front log.mem) f g
logged_behind old new log added change none is lawful all room few holds =
    let one : added ≡ record log { batch = change ∷ [] } = is ∙ ap (λ (cs : List Change). record log { batch = cs ++ change ∷ [] }) none in
    let each : list_all is_lawful (log.list ++ change ∷ []) ≡ true =
    list_all-append is_lawful log.list (change ∷ []) ∙ and_from (list_all is_lawful log.list) (list_all is_lawful (change ∷ [])) all (and_from (is_lawful change) true lawful refl) in
    appended_behind old new (record log { batch = change ∷ [] }) each (taking_room (record log { batch = change ∷ [] }) room) few (subst (λ (j : Log). HoldsBatch old new j) one holds)

module _ (old new : DiskView) (x : Contents) (log added : Log) (change : Change) (s : ContentsStand old x) (l : IsLogOf x log) (none : log.batch ≡ [])
    (is : added ≡ record log { batch = log.batch ++ change ∷ [] }) where
  one_added : added.batch ≡ change ∷ []
  one_added = ap (λ (j : Log). j.batch) is ∙ ap (λ (cs : List Change). cs ++ change ∷ []) none

  added_of : IsLogOf x added
  added_of = record {
    mem = ap (λ (j : Log). j.mem) is ∙ l.mem;
    active = ap (λ (j : Log). j.active) is ∙ l.active;
    list = ap (λ (j : Log). j.list) is ∙ l.list;
  }

  module _ (takes : Takes (contents_state x) change) (appends : AppendsBatch old new added) where
    sound_added : IsSound (contents_state (with_batch x added.batch))
    sound_added = subst (λ (cs : List Change). IsSound (contents_state (with_batch x cs))) (sym one_added) (stays_sound (contents_state x) change takes)

    -- each image shows the table of before, or that with the change
    pub logged_trail : Trail ShowsTable new old.moment (table_of (contents_state x) ∷ table_of (contents_state (with_batch x (change ∷ []))) ∷ []) 0
    logged_trail =
        subst (λ (cs : List Change). Trail ShowsTable new old.moment (table_of (contents_state x) ∷ table_of (contents_state (with_batch x cs)) ∷ []) 0) one_added
        (either_trail old new x added s added_of appends sound_added)

    -- what each of them leaves is paid for
    pub logged_super : KeepSuper new old.moment x.slot x.sb
    logged_super = batch_super old new x added s added_of appends sound_added

    pub logged_paid : IsPaid (contents_state x) → ArePaidSince new old.moment
    logged_paid = batch_paid old new x added s added_of appends sound_added

    -- and in the end the contents with the change stand
    pub logged_stands : (joined : Log) → joined ≡ batch_joined added → ((f : Image) → Exposes old f → Stands old added → Stands new joined) → LeavesContent new
        → Trail ShowsTable new old.moment (table_of (contents_state x) ∷ table_of (contents_state (with_batch x (change ∷ []))) ∷ []) 1
        × ContentsStand new (with_batch x (change ∷ []))
    logged_stands joined joins kept leaves =
        let stands : Stands new (batch_joined added) = subst (λ (j : Log). Stands new j) joins (kept s.content s.exposed (stands_journal old x added s added_of)) in (
          subst (λ (cs : List Change). Trail ShowsTable new old.moment (table_of (contents_state x) ∷ table_of (contents_state (with_batch x cs)) ∷ []) 1) one_added
              (appended_trail old new x added s added_of appends sound_added stands),
          subst (λ (cs : List Change). ContentsStand new (with_batch x cs)) one_added (appended_stands old new x added s added_of appends sound_added stands leaves),
        )
