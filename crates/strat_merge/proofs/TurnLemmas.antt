-- One turn of a merge after the other.
use Rattle.std.proofs.Common.{◌≡◌, ◌≢◌, ◌≤◌, ◌<◌, ℕ, ◌+◌, ◌-◌, ◌*◌, ◌^◌, true, false, inl, inr, List, [], ◌∷◌, length, map, Option, Some, None, Ok, Err, refl, sym, ap, ◌∙◌, subst, true≢false, arith, length-append, length-set}
use Rattle.std.specs.Prelude.{Result, IsSome, IfSome, IfNone}
use Rattle.std.specs.List.{Contains, slice_get}
use Rattle.std.specs.Option.{option_map_or, option_and_then}
use Rattle.std.specs.Ordering.{is_lt, is_gt}
use Rattle.strat_base.specs.Order.{entry_cmp}
use Rattle.std.proofs.lemmas.Bool.{cases_lt}
use Rattle.std.proofs.lemmas.Nat.{mul-le}
use Rattle.std.proofs.lemmas.List.{length-map}
use Rattle.def_crash.specs.Faults.{HasCause, one_more}
use Rattle.def_crash.specs.Image.{Image}
use Rattle.def_crash.specs.Moments.{DiskView, Exposes, OnlyReads}
use Rattle.def_crash.proofs.MomentLemmas.{reads_refl, reads_trans}
use Rattle.strat_arena.specs.ArenaView.{KeyValue}
use Rattle.strat_arena.specs.declared.items.Item.{Item}
use Rattle.strat_base.specs.declared.failures.Trouble.{Trouble}
use Rattle.strat_base.specs.declared.failures.Trouble.TheVariants.{Device, Damaged}
use Rattle.strat_base.specs.Entries.{Entry, is_of}
use Rattle.strat_base.specs.EntryBytes.{fits_fields}
use Rattle.strat_base.proofs.ListFacts.{Among, all_at, get_among}
use Rattle.strat_base.proofs.EntryLemmas.{is_of_key}
use Rattle.strat_base.proofs.ResultFacts.{option_cases}
use Rattle.def_split.proofs.ListLemmas.{map_among}
use Rattle.strat_merge.specs.Runs.{RunView, IsEntryRun, head_at, lefts, blocks_left, IsBadFor}
use Rattle.strat_merge.specs.Bracket.{is_ahead, IsTournament}
use Rattle.strat_merge.specs.Reading.{ReadsRuns}
use Rattle.strat_arena.specs.Items.{entries_of, have_pairs}
use Rattle.strat_merge.specs.Gathered.{IsGroup, TakesNext, CountsTaken, last_entry, with_next, Leads, LeadsAside, PassesOne, AreGathered, Gathers}
use Rattle.strat_merge.proofs.BracketLemmas.{equal_or_not}
use Rattle.strat_merge.proofs.GatherLemmas.{IsTakeable, with_cases, last_is, get_within, gathered_begun, gathers_begun, gathered_next, gathers_next, one_fewer, later_heads, head_other, head_next, ended_behind, takes_next, count_begun, count_more}
use Rattle.strat_merge.proofs.GroupLemmas.{items_descend, items_below}
use Rattle.strat_merge.proofs.OrderLemmas.{by_entry, entry_total, not_before_itself, version_le, turn_after}

-- what a merge touches
pub record Touched (R : Type 0) : Type 1 where
  pub disk : DiskView
  pub faults : ℕ
  pub reads : ℕ
  pub runs : List R
  pub winners : List ℕ
  pub consumed : ℕ
  pub pairs : List KeyValue
  pub items : List Item

abbrev pub Reads : {R T : Type 0} → (R → RunView) → Touched R → Touched R → Result T Trouble → Type 0
Reads view a b result = ReadsRuns view Device (λ n. Damaged n) a.disk b.disk a.faults b.faults a.reads b.reads a.runs b.runs result

abbrev pub entries_in : {R : Type 0} → Touched R → List Entry
entries_in w = entries_of w.pairs w.items

abbrev pub done : Result (Unit {0}) Trouble
done = Ok tt

-- how many turns are left at most
abbrev pub turns_left : List RunView → Option ℕ → ℕ
turns_left runs None = 0
turns_left runs (Some w) = option_map_or (λ e. e.version) (head_at runs w) 0 * length runs + (length runs - w) + 1

-- reading runs twice
module _ {R : Type 0} (view : R → RunView) where
  pub reads_then : {T : Type 0} (a b d : Touched R) (result : Result T Trouble) → Reads view a b done → Reads view b d result → Reads view a d result
  reads_then a b d result one two =
      let calm : b.faults ≡ a.faults = one.cause.ok in
      record {
        same = reads_trans one.same two.same;
        cause = subst (λ (n : ℕ). HasCause Device n d.faults result) calm two.cause;
        named = λ n is. one.left.fewer n (two.named n is);
        blamed = λ n is c exposes. one.fewer c n exposes (two.blamed n is c (one.same.same ∙ exposes));
        fewer = λ c n exposes is. one.fewer c n exposes (two.fewer c n (one.same.same ∙ exposes) is);
        left = record {
          fewer = λ n here. one.left.fewer n (two.left.fewer n here);
          later = let le = one.left.later in let le2 = two.left.later in omega arith;
          most = let le = one.left.most in let le2 = two.left.most in omega arith;
        };
      }

  pub reads_none : (a b : Touched R) → b.disk ≡ a.disk → b.faults ≡ a.faults → b.reads ≡ a.reads → b.runs ≡ a.runs → Reads view a b done
  reads_none a b disk faults reads runs =
      let same : OnlyReads a.disk b.disk = subst (λ d. OnlyReads a.disk d) (sym disk) (reads_refl a.disk) in
      record {
        same = same;
        cause = record { later = omega arith; ok = faults; device = λ is. absurd (cc); other = tt };
        named = λ n is. absurd (cc);
        blamed = λ n is. absurd (cc);
        fewer = λ c n exposes is. subst (λ rs. IsBadFor (map view rs) c n) runs is;
        left = record {
          fewer = λ n here. subst (λ rs. Contains (blocks_left (map view rs)) n) runs here;
          later = omega arith;
          most = let e : length (blocks_left (map view b.runs)) ≡ length (blocks_left (map view a.runs)) = ap (λ rs. length (blocks_left (map view rs))) runs in omega arith;
        };
      }

  pub reads_ok : {T : Type 0} (x : T) (a b : Touched R) → Reads view a b done → Reads view a b (Ok x)
  reads_ok x a b reads = record {
    same = reads.same;
    cause = record { later = reads.cause.later; ok = reads.cause.ok; device = λ is. absurd (cc); other = tt };
    named = λ n is. absurd (cc);
    blamed = λ n is. absurd (cc);
    fewer = reads.fewer;
    left = reads.left;
  }

  pub reads_err : {T : Type 0} (e : Trouble) (a b : Touched R) → Reads {T = Unit {0}} view a b (Err e) → Reads {T = T} view a b (Err e)
  reads_err e a b reads = record {
    same = reads.same;
    cause = record { later = reads.cause.later; ok = tt; device = λ is. reads.cause.device (same_err e Device is); other = reads.cause.other };
    named = λ n is. reads.named n (same_err e (Damaged n) is);
    blamed = λ n is. reads.blamed n (same_err e (Damaged n) is);
    fewer = reads.fewer;
    left = reads.left;
  }
    where
      same_err : {T' : Type 0} (a' b' : Trouble) → Path (Result T' Trouble) (Err a') (Err b') → Path (Result (Unit {0}) Trouble) (Err a') (Err b')
      same_err a' b' is = cc

pub all_runs : {R : Type 0} (view : R → RunView) → ((x : R) → IsEntryRun (view x)) → (runs : List R) (v : RunView) → Among v (map view runs) → IsEntryRun v
all_runs view law runs v among = let at = map_among view runs v among in subst (λ (w : RunView). IsEntryRun w) (sym at.2) (law at.0)

-- what taking an entry does
pub record Took {R : Type 0} (view : R → RunView) (a b : Touched R) (r : ℕ) : Type 0 where
  pub passes : PassesOne a.disk (map view a.runs) (map view b.runs) r
  pub adds : (e : Entry) → head_at (map view a.runs) r ≡ Some e → entries_in b ≡ with_next (entries_in a) e
  pub won : IsTournament (map view b.runs) b.winners
  pub len : length b.pairs ≡ length b.items
  pub slots : have_pairs b.pairs b.items ≡ true
  pub counted : b.consumed ≡ one_more a.consumed
  pub fits : (e : Entry) → head_at (map view a.runs) r ≡ Some e → fits_fields e ≡ true
  pub low : (e : Entry) (v : RunView) → head_at (map view a.runs) r ≡ Some e → slice_get (map view a.runs) r ≡ Some v → e.version < v.versions
  pub reads : Reads view a b done

-- a merge under way
pub record IsGathering {R : Type 0} (view : R → RunView) (start now : Touched R) (next : Option ℕ) : Type 0 where
  pub key : List ℕ
  pub begins : (i : ℕ) × ((e : Entry) × (head_at (map view start.runs) i ≡ Some e) × (e.key ≡ key))
  pub won : IsTournament (map view now.runs) now.winners
  pub len : length now.pairs ≡ length now.items
  pub slots : have_pairs now.pairs now.items ≡ true
  pub reads : Reads view start now done
  pub gathered : AreGathered (map view start.runs) (map view now.runs) key (entries_in now)
  pub gathers : (c : Image) → Exposes start.disk c → Gathers (lefts c (map view start.runs)) (lefts c (map view now.runs)) key (entries_in now)
  pub counts : (c : Image) → Exposes start.disk c → CountsTaken (lefts c (map view start.runs)) (lefts c (map view now.runs)) start.consumed now.consumed
  pub found : IfSome next (λ w. (w < length now.runs) × ((e : Entry) × (Leads (map view now.runs) w e × (e.key ≡ key))))
  pub ended : IfNone next (LeadsAside (map view now.runs) key × (0 < length now.items))

with_some : (es : List Entry) (e : Entry) → 0 < length (with_next es e)
with_some es e =
    with_cases (λ xs. 0 < length xs) es e
    (λ tied. let last = last_is es e.version tied in some es last.0 last.1)
    (λ apart. let size = length-append es (e ∷ []) in omega arith)
  where
    some : (xs : List Entry) (l : Entry) → last_entry xs ≡ Some l → 0 < length xs
    some [] l is = cc
    some (x ∷ xs) l is = omega arith

module _ {R : Type 0} (view : R → RunView) (law : (x : R) → IsEntryRun (view x)) (start a b : Touched R) (r : ℕ) (gathering : IsGathering view start a (Some r)) (took : Took view a b r) where
  abbrev now_entry : Entry
  now_entry = gathering.found.1.0

  now_leads : Leads (map view a.runs) r now_entry
  now_leads = gathering.found.1.1.0

  now_key : now_entry.key ≡ gathering.key
  now_key = gathering.found.1.1.1

  now_adds : entries_in b ≡ with_next (entries_in a) now_entry
  now_adds = took.adds now_entry now_leads.head

  now_takes : IsTakeable (map view a.runs) r gathering.key now_entry
  now_takes = record { keyed = now_key; lawful = took.fits now_entry now_leads.head; low = λ v there. took.low now_entry v now_leads.head there }

  next_gathered : AreGathered (map view start.runs) (map view b.runs) gathering.key (entries_in b)
  next_gathered =
      subst (λ (es : List Entry). AreGathered (map view start.runs) (map view b.runs) gathering.key es) (sym now_adds)
      (gathered_next a.disk (map view start.runs) (map view a.runs) (map view b.runs) r gathering.key (entries_in a) now_entry took.passes now_leads (all_runs view law a.runs) now_takes gathering.gathered)

  some_now : 0 < length b.items
  some_now =
      let size : length (entries_in b) ≡ length b.items = length-map b.items _ in
      let some : 0 < length (entries_in b) = subst (λ (es : List Entry). 0 < length es) (sym now_adds) (with_some (entries_in a) now_entry) in
      omega arith

  key_is : (k : List ℕ) → ((e : Entry) → slice_get (entries_in b) 0 ≡ Some e → k ≡ e.key) → k ≡ gathering.key
  key_is k is =
      let size : length (entries_in b) ≡ length b.items = length-map b.items _ in
      let some = some_now in
      elim (option_cases (slice_get (entries_in b) 0)) [
        | inl none ↦ absurd (get_within (entries_in b) 0 (omega arith) none)
        | inr first ↦ is first.0 first.1 ∙ is_of_key gathering.key first.0 (all_at (is_of gathering.key) first.0 (entries_in b) next_gathered.keyed (get_among (entries_in b) 0 first.0 first.1))
      ]

  pub gathering_next : (next : Option ℕ) (k : List ℕ) → ((e : Entry) → slice_get (entries_in b) 0 ≡ Some e → k ≡ e.key) → IfSome next (λ w. w < length b.runs)
      → IfSome next (λ w. (e : Entry) × (Leads (map view b.runs) w e × (is_of k e ≡ true))) → IfNone next (LeadsAside (map view b.runs) k) → IsGathering view start b next
  gathering_next next k is within leads aside = record {
    key = gathering.key;
    begins = gathering.begins;
    won = took.won;
    len = took.len;
    slots = took.slots;
    reads = reads_then view start a b done gathering.reads took.reads;
    gathered = next_gathered;
    gathers = λ c exposes.
        subst (λ (es : List Entry). Gathers (lefts c (map view start.runs)) (lefts c (map view b.runs)) gathering.key es) (sym now_adds)
        (gathers_next a.disk (map view start.runs) (map view a.runs) (map view b.runs) r gathering.key (entries_in a) now_entry took.passes now_leads (all_runs view law a.runs) now_takes gathering.gathered c (gathering.reads.same.same ∙ exposes) (lefts c (map view start.runs)) (gathering.gathers c exposes));
    counts = λ c exposes.
        subst (λ (n : ℕ). CountsTaken (lefts c (map view start.runs)) (lefts c (map view b.runs)) start.consumed n) (sym took.counted)
        (count_more (lefts c (map view start.runs)) (lefts c (map view a.runs)) (lefts c (map view b.runs)) start.consumed a.consumed
        (one_fewer a.disk (map view a.runs) (map view b.runs) r now_entry took.passes now_leads (all_runs view law a.runs) c (gathering.reads.same.same ∙ exposes)) (gathering.counts c exposes));
    found = found_both next within leads;
    ended = ended_both next aside;
  }
    where
      found_both : (o : Option ℕ) → IfSome o (λ w. w < length b.runs) → IfSome o (λ w. (e : Entry) × (Leads (map view b.runs) w e × (is_of k e ≡ true))) → IfSome o (λ w. (w < length b.runs) × ((e : Entry) × (Leads (map view b.runs) w e × (e.key ≡ gathering.key))))
      found_both None one two = tt
      found_both (Some w) one two = (one, (two.0, (two.1.0, is_of_key k two.0 two.1.1 ∙ key_is k is)))

      ended_both : (o : Option ℕ) → IfNone o (LeadsAside (map view b.runs) k) → IfNone o (LeadsAside (map view b.runs) gathering.key × (0 < length b.items))
      ended_both None one = (subst (λ (j : List ℕ). LeadsAside (map view b.runs) j) (key_is k is) one, some_now)
      ended_both (Some w) one = tt

product_le : (a b n : ℕ) → a ≤ b → a * n ≤ b * n
product_le a b n le = mul-le a n b n le (omega arith)

product_lt : (a b n : ℕ) → a < b → a * n + n ≤ b * n
product_lt a b n lt = let le : (a + 1) * n ≤ b * n = product_le (a + 1) b n (omega arith) in let e : (a + 1) * n ≡ a * n + n = grind arith in omega arith

module _ {R : Type 0} (view : R → RunView) (law : (x : R) → IsEntryRun (view x)) (start a b : Touched R) (r : ℕ) (gathering : IsGathering view start a (Some r)) (took : Took view a b r) where
  -- of one key the turns fall
  turn_falls : (w : ℕ) (f : Entry) → w < length b.runs → Leads (map view b.runs) w f → f.key ≡ gathering.key → turns_left (map view b.runs) (Some w) < turns_left (map view a.runs) (Some r)
  turn_falls w f within leads keyed =
      let e : Entry = gathering.found.1.0 in
      let e_leads : Leads (map view a.runs) r gathering.found.1.0 = gathering.found.1.1.0 in
      let same : gathering.found.1.0.key ≡ f.key = gathering.found.1.1.1 ∙ sym keyed in
      let size_a : length (map view a.runs) ≡ length a.runs = length-map a.runs view in
      let size_set : length (map view b.runs) ≡ length (map view a.runs) = ap (λ (vs : List RunView). length vs) took.passes.others ∙ length-set (map view a.runs) r took.passes.after in
      let size_b : length (map view b.runs) ≡ length b.runs = length-map b.runs view in
      let low : r < length a.runs = gathering.found.0 in
      let le : is_gt (by_entry gathering.found.1.0 f) ≡ false = later_heads a.disk (map view a.runs) (map view b.runs) r gathering.found.1.0 took.passes e_leads (all_runs view law a.runs) w f leads.head in
      let older : f.version ≤ gathering.found.1.0.version = version_le gathering.found.1.0 f same le in
      let v_b : option_map_or (λ (d : Entry). d.version) (head_at (map view b.runs) w) 0 ≡ f.version = ap (λ (o : Option Entry). option_map_or (λ (d : Entry). d.version) o 0) leads.head in
      let v_a : option_map_or (λ (d : Entry). d.version) (head_at (map view a.runs) r) 0 ≡ gathering.found.1.0.version = ap (λ (o : Option Entry). option_map_or (λ (d : Entry). d.version) o 0) e_leads.head in
      let rows : f.version * length (map view b.runs) + (length (map view b.runs) - w) + 1 < gathering.found.1.0.version * length (map view a.runs) + (length (map view a.runs) - r) + 1 =
      elim (cases_lt f.version gathering.found.1.0.version) [
        | inl less ↦ falls_row f.version gathering.found.1.0.version (length (map view b.runs)) (length (map view a.runs)) w r size_set less (omega arith)
        | inr not_less ↦
            let tie : f.version ≡ gathering.found.1.0.version = omega arith in
            falls_turn f.version gathering.found.1.0.version (length (map view b.runs)) (length (map view a.runs)) w r size_set tie (omega arith) (after f.version tie)
      ] in
      subst (λ (n : ℕ). n * length (map view b.runs) + (length (map view b.runs) - w) + 1 < option_map_or (λ (d : Entry). d.version) (head_at (map view a.runs) r) 0 * length (map view a.runs) + (length (map view a.runs) - r) + 1) (sym v_b)
      (subst (λ (n : ℕ). f.version * length (map view b.runs) + (length (map view b.runs) - w) + 1 < n * length (map view a.runs) + (length (map view a.runs) - r) + 1) (sym v_a) rows)
    where
      falls_row : (v u m n x y : ℕ) → m ≡ n → v < u → y < n → v * m + (m - x) + 1 < u * n + (n - y) + 1
      falls_row v u m n x y size lt low = let rows = product_lt v u n lt in let e : v * m ≡ v * n = ap (λ k. v * k) size in omega arith

      falls_turn : (v u m n x y : ℕ) → m ≡ n → v ≡ u → y < n → y < x → v * m + (m - x) + 1 < u * n + (n - y) + 1
      falls_turn v u m n x y size same low later = let e : v * m ≡ u * n = (λ i. same i * size i) in omega arith

      after : (v : ℕ) → f.version ≡ gathering.found.1.0.version → r < w
      after v tie =
          let e_leads : Leads (map view a.runs) r gathering.found.1.0 = gathering.found.1.1.0 in
          let same : f.key ≡ gathering.found.1.0.key = keyed ∙ sym gathering.found.1.1.1 in
          elim (equal_or_not w r) [
            | inl here ↦
                let at : took.passes.after.first ≡ Some f = sym (head_next a.disk (map view a.runs) (map view b.runs) r gathering.found.1.0 took.passes e_leads (all_runs view law a.runs)) ∙ subst (λ (j : ℕ). head_at (map view b.runs) j ≡ Some f) here leads.head in
                let was : took.passes.before.first ≡ Some gathering.found.1.0 = first_was in
                let lt : is_lt (by_entry gathering.found.1.0 f) ≡ true = took.passes.step.later gathering.found.1.0 f was at in
                let itself : by_entry gathering.found.1.0 f ≡ by_entry f f = (λ i. entry_cmp (sym same i) (sym tie i) f.key f.version) in
                absurd (true≢false (sym lt ∙ ap is_lt itself ∙ not_before_itself entry_total f))
            | inr apart ↦
                let at : head_at (map view a.runs) w ≡ Some f = sym (head_other a.disk (map view a.runs) (map view b.runs) r gathering.found.1.0 took.passes e_leads (all_runs view law a.runs) w apart) ∙ leads.head in
                let behind : is_ahead (Some f) w (Some gathering.found.1.0) r ≡ false =
                subst (λ (o : Option Entry). is_ahead o w (Some gathering.found.1.0) r ≡ false) at (subst (λ (o : Option Entry). is_ahead (head_at (map view a.runs) w) w o r ≡ false) e_leads.head (e_leads.first w)) in
                let le = turn_after f w gathering.found.1.0 r same tie behind in
                strictly apart le
          ]
        where
          first_was : took.passes.before.first ≡ Some gathering.found.1.0
          first_was = sym (ap (λ (o : Option RunView). option_and_then (λ run. run.first) o) took.passes.there) ∙ gathering.found.1.1.0.head

          strictly : w ≢ r → r ≤ w → r < w
          strictly apart' le' = elim (cases_lt r w) [ inl lt' ↦ lt' | inr ge' ↦ let e : w ≡ r = omega arith in absurd (apart' e) ]

  pub turns_fall : (next : Option ℕ) (k : List ℕ) → ((e : Entry) → slice_get (entries_in b) 0 ≡ Some e → k ≡ e.key) → IfSome next (λ w. w < length b.runs)
      → IfSome next (λ w. (e : Entry) × (Leads (map view b.runs) w e × (is_of k e ≡ true))) → turns_left (map view b.runs) next < turns_left (map view a.runs) (Some r)
  turns_fall None k is within leads = omega arith
  turns_fall (Some w) k is within leads =
      turn_falls w leads.0 within leads.1.0 (is_of_key k leads.0 leads.1.1 ∙ key_is view law start a b r gathering took k is)

-- the start of a merge
pub gathering_begun : {R : Type 0} (view : R → RunView) (law : (x : R) → IsEntryRun (view x)) (now : Touched R) (w : ℕ) → now.consumed < 2 ^ 64 → now.pairs ≡ [] → now.items ≡ [] → IsTournament (map view now.runs) now.winners
    → w < length now.runs → (e : Entry) → Leads (map view now.runs) w e → IsGathering view now now (Some w)
gathering_begun view law now w fits pairs items won within e leads = record {
  key = e.key;
  begins = (w, (e, leads.head, refl));
  won = won;
  len = ap (λ ps. length ps) pairs ∙ sym (ap (λ xs. length xs) items);
  slots = subst (λ xs. have_pairs now.pairs xs ≡ true) (sym items) refl;
  reads = reads_none view now now refl refl refl refl;
  gathered = subst (λ xs. AreGathered (map view now.runs) (map view now.runs) e.key (entries_of now.pairs xs)) (sym items) (gathered_begun (map view now.runs) w e leads);
  gathers = λ c exposes. subst (λ xs. Gathers (lefts c (map view now.runs)) (lefts c (map view now.runs)) e.key (entries_of now.pairs xs)) (sym items) (gathers_begun (lefts c (map view now.runs)) e.key);
  counts = λ c exposes. count_begun (lefts c (map view now.runs)) now.consumed fits;
  found = (within, (e, (leads, refl)));
  ended = tt;
}

-- the end of a merge
module _ {R : Type 0} (view : R → RunView) (law : (x : R) → IsEntryRun (view x)) (start now : Touched R) (next : Option ℕ) (none : next ≡ None) (gathering : IsGathering view start now next) where
  end_facts : LeadsAside (map view now.runs) gathering.key × (0 < length now.items)
  end_facts = subst (λ (o : Option ℕ). IfNone o (LeadsAside (map view now.runs) gathering.key × (0 < length now.items))) none gathering.ended

  pub group_given : IsGroup (map view start.runs) (map view now.runs) now.pairs now.items gathering.key
  group_given = record {
    some = end_facts.1;
    alone = gathering.len;
    slots = gathering.slots;
    descending = items_descend now.pairs now.items gathering.key gathering.gathered.keyed gathering.gathered.ascending;
    keyed = gathering.gathered.keyed;
    lawful = gathering.gathered.lawful;
    low = λ n under. items_below now.pairs now.items n (gathering.gathered.low n under);
    bound = gathering.gathered.bound;
    begins = gathering.begins;
    least = gathering.gathered.least;
    behind = ended_behind (map view start.runs) (map view now.runs) gathering.key (entries_in now) gathering.gathered end_facts.0;
  }

  pub next_taken : (c : Image) → Exposes start.disk c → TakesNext (lefts c (map view start.runs)) (lefts c (map view now.runs)) (entries_in now)
  next_taken c exposes =
      let size : length (entries_in now) ≡ length now.items = length-map now.items _ in
      let some = end_facts.1 in
      takes_next (map view start.runs) (map view now.runs) gathering.key (entries_in now) gathering.gathered end_facts.0 (all_runs view law start.runs) (all_runs view law now.runs) c (gathering.gathers c exposes) (omega arith)

-- a turn is taken where there is a next run
pub at_next : {R : Type 0} {view : R → RunView} {start now : Touched R} {next : Option ℕ} (r : ℕ) → next ≡ Some r → IsGathering view start now next → IsGathering view start now (Some r)
at_next {R} {view} {start} {now} {next} r is gathering = subst (λ (o : Option ℕ). IsGathering view start now o) is gathering

pub group_filled : {R : Type 0} (view : R → RunView) (law : (x : R) → IsEntryRun (view x)) (start a b : Touched R) (r : ℕ) (gathering : IsGathering view start a (Some r)) (took : Took view a b r) → 0 < length b.items
group_filled view law start a b r gathering took = some_now view law start a b r gathering took

-- the leader of runs that are held elsewhere
pub leader_leads : {R : Type 0} (view : R → RunView) (runs held : List R) (w : ℕ) → held ≡ runs → IsSome (head_at (map view held) w)
    → ((i : ℕ) → is_ahead (head_at (map view held) i) i (head_at (map view held) w) w ≡ false) → (e : Entry) × Leads (map view runs) w e
leader_leads view runs held w same some first =
    let P : List RunView → Type 0 = λ vs. (e : Entry) × Leads vs w e in
    subst P (ap (λ rs. map view rs) same)
    (elim (option_cases (head_at (map view held) w)) [
      | inl none ↦ absurd (true≢false (sym (subst (λ (o : Option Entry). IsSome o) none some)))
      | inr found ↦ (found.0, record { head = found.1; first = first })
    ])
