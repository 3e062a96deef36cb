-- Leads that are reached from block to block.
use Rattle.std.proofs.Common.{◌≡◌, ◌<◌, ◌≤◌, ◌+◌, ℕ, zero, suc, Bool, true, false, cond, inl, inr, List, [], ◌∷◌, ◌++◌, length, drop, get_or, Option, Some, None, Result, Ok, Err, IsErrAnd, OnOk, OnErr, IsSome, is_some, refl, sym, ap, ◌∙◌, subst, true≢false, arith}
use Rattle.std.specs.List.{list_all, slice_get}
use Rattle.std.specs.Ordering.{is_lt}
use Rattle.std.proofs.lemmas.Bool.{and_parts, and_from, cases_lt}
use Rattle.std.proofs.lemmas.List.{drop_all, drop_more}
use Rattle.std.proofs.lemmas.Result.{err_from_is_err_and}
use Rattle.std.proofs.lemmas.List.Elements.{filter-append}
use Rattle.strat_base.specs.Entries.{Entry, is_ascending, is_tagged, lead_entries}
use Rattle.strat_base.specs.declared.descriptors.Extent.{Extent}
use Rattle.strat_base.specs.declared.failures.Fault.{Fault}
use Rattle.strat_base.specs.declared.failures.Fault.TheVariants as fault
use Rattle.strat_base.specs.declared.failures.Trouble.{Trouble}
use Rattle.strat_base.specs.declared.failures.Trouble.TheVariants as trouble
use Rattle.strat_base.specs.Troubles.{as_trouble}
use Rattle.strat_base.proofs.ResultFacts.{option_cases}
use Rattle.def_bytes.specs.Arrays.{blocks_of}
use Rattle.def_crash.specs.Image.{Image}
use Rattle.def_crash.specs.Moments.{DiskView, Exposes, OnlyReads}
use Rattle.def_crash.proofs.MomentLemmas.{reads_refl, reads_trans}
use Rattle.strat_merge.specs.Runs.{IsEntryRun, Advances, ReadsFront}
use Rattle.def_split.proofs.ListLemmas.{filter_ascending}
use Rattle.def_state.proofs.SettingLemmas.{order, order_trans, stands_first, first_of}
use Rattle.strat_promote.specs.LeadRuns.{BlockReading, entries_from, misfit_from, read_out, ReadsNext, IsPast, PassesOver, begins_with_lead, is_settled, leads_from}
use Rattle.strat_promote.specs.Leads.{comes_after, last_of, entries_after, misfit_after}
use Rattle.strat_promote.proofs.LeadLemmas.{is_less, first_before_all, ascends_both, read_ascends, nothing_after, no_misfit, entries_step, misfit_step, last_same, last_among, front_refl, front_trans, entries_same, misfit_same}

-- Within one block.

all_drop : {X : Type 0} (p : X → Bool) (n : ℕ) (xs : List X) → list_all p xs ≡ true → list_all p (drop n xs) ≡ true
all_drop p zero xs all' = all'
all_drop p (suc n) [] all' = refl
all_drop p (suc n) (x ∷ xs) all' = all_drop p n xs (and_parts (p x) (list_all p xs) all').1

-- what holds of all elements from an index on holds of all from a later one on
all_later : {X : Type 0} (p : X → Bool) (i j : ℕ) (xs : List X) → i ≤ j → list_all p (drop i xs) ≡ true → list_all p (drop j xs) ≡ true
all_later p zero j xs le all' = all_drop p j xs all'
all_later p (suc i) zero xs le all' = absurd (omega arith)
all_later p (suc i) (suc j) [] le all' = refl
all_later p (suc i) (suc j) (x ∷ xs) le all' = all_later p i j xs (omega arith) all'

pub ascending_drop : (n : ℕ) (entries : List Entry) → is_ascending entries ≡ true → is_ascending (drop n entries) ≡ true
ascending_drop zero entries up = up
ascending_drop (suc n) [] up = refl
ascending_drop (suc n) (e ∷ entries) up = ascending_drop n entries (and_parts (stands_first e entries) (is_ascending entries) up).1

-- an entry that is no lead is passed over
pub skip_one : (tag : List ℕ) (entries : List Entry) (i : ℕ) (d : Entry) → i < length entries → is_tagged tag (get_or entries i d).version ≡ false
    → lead_entries tag (drop (i + 1) entries) ≡ lead_entries tag (drop i entries)
skip_one tag [] i d lt no' = absurd (omega arith)
skip_one tag (e ∷ entries) zero d lt no' =
    sym (ap (λ (t : Bool). cond t (e ∷ lead_entries tag entries) (lead_entries tag entries)) no')
skip_one tag (e ∷ entries) (suc i) d lt no' =
    let n : suc i + 1 ≡ suc (i + 1) = omega arith in
    ap (λ (k : ℕ). lead_entries tag (drop k (e ∷ entries))) n ∙ skip_one tag entries i d (omega arith) no'

-- an entry that is a lead begins what is left
pub begin_here : (tag : List ℕ) (entries : List Entry) (i : ℕ) (d : Entry) (blocks : List ℕ) → i < length entries → is_tagged tag (get_or entries i d).version ≡ true
    → begins_with_lead tag (drop i entries) blocks ≡ true
begin_here tag [] i d blocks lt yes' = absurd (omega arith)
begin_here tag (e ∷ entries) zero d blocks lt yes' = yes'
begin_here tag (e ∷ entries) (suc i) d blocks lt yes' = begin_here tag entries i d blocks (omega arith) yes'

-- what begins with a lead has it there
pub lead_here : (tag : List ℕ) (entries : List Entry) (i : ℕ) (d : Entry) (blocks : List ℕ) → i < length entries → is_settled tag (drop i entries) blocks ≡ true
    → is_tagged tag (get_or entries i d).version ≡ true
lead_here tag [] i d blocks lt settled = absurd (omega arith)
lead_here tag (e ∷ entries) zero d blocks lt settled = (and_parts (is_ascending (e ∷ entries)) (is_tagged tag e.version) settled).1
lead_here tag (e ∷ entries) (suc i) d blocks lt settled = lead_here tag entries i d blocks (omega arith) settled

pub settled_here : (tag : List ℕ) (r : BlockReading) (i : ℕ) → is_ascending r.entries ≡ true → begins_with_lead tag (drop i r.entries) r.blocks ≡ true → is_settled tag (drop i r.entries) r.blocks ≡ true
settled_here tag r i up begins =
    and_from (is_ascending (drop i r.entries)) (begins_with_lead tag (drop i r.entries) r.blocks) (ascending_drop i r.entries up) begins

pub settled_end : (tag : List ℕ) (r : BlockReading) (i : ℕ) → length r.entries ≤ i → r.blocks ≡ [] → is_settled tag (drop i r.entries) r.blocks ≡ true
settled_end tag r i le none =
    let gone : drop i r.entries ≡ [] = drop_all i r.entries le in
    subst (λ (bs : List ℕ). is_settled tag (drop i r.entries) bs ≡ true) (sym none) (subst (λ (es : List Entry). is_settled tag es [] ≡ true) (sym gone) refl)

module _ (disk : DiskView) (tag : List ℕ) where
  pub passes_in_block : (r : BlockReading) (i j : ℕ) → i ≤ j → j ≤ length r.entries → lead_entries tag (drop j r.entries) ≡ lead_entries tag (drop i r.entries) → PassesOver disk tag r i r j
  passes_in_block r i j le within same =
      record {
        within = within;
        leads = λ f exposed.
            let more : List Entry = entries_after f (last_of None r.entries) r.blocks in
            filter-append (λ e. is_tagged tag e.version) (drop j r.entries) more
            ∙ ap (λ (es : List Entry). es ++ lead_entries tag more) same
            ∙ sym (filter-append (λ e. is_tagged tag e.version) (drop i r.entries) more);
        misfit = λ f exposed. refl;
        later = λ e past. record { here = all_later (λ d. is_lt (order e d)) i j r.entries le past.here; behind = past.behind };
      }

  -- what comes after an entry and the entries of the next block
  past_next : (old new : BlockReading) (i : ℕ) (e : Entry) (entries : List Entry) → entries ≡ new.entries → ReadsNext disk old new → IsPast e old i → IsPast e new 0
  past_next old new i e [] is next past = let some = next.some in absurd (omega (arith, some, ap (λ (es : List Entry). length es) is))
  past_next old new i e (d ∷ entries) is next past =
      let first : is_lt (order e d) ≡ true = past.behind d (comes_one (last_of None old.entries) d entries (ap (comes_after (last_of None old.entries)) is ∙ next.after)) in
      let all' : stands_first e (d ∷ entries) ≡ true = first_before_all e d entries first (ap is_ascending is ∙ next.ascending) in
      let last = last_among d entries in
      record {
        here = ap (stands_first e) (sym is) ∙ all';
        behind = λ h after.
            let lt : is_lt (order last.0 h) ≡ true = ap (λ (o : Option Entry). comes_after o (h ∷ [])) (sym (ap (last_of None) (sym is) ∙ last.2)) ∙ after in
            ap is_lt (order_trans e last.0 h (first_of e last.0 (d ∷ entries) all' last.1) (is_less last.0 h lt));
      }
    where
      comes_one : (before : Option Entry) (d : Entry) (entries : List Entry) → comes_after before (d ∷ entries) ≡ true → comes_after before (d ∷ []) ≡ true
      comes_one None d entries after = refl
      comes_one (Some b) d entries after = after

  pub passes_turn : (old new : BlockReading) (i : ℕ) → length old.entries ≤ i → ReadsNext disk old new → PassesOver disk tag old i new 0
  passes_turn old new i le next =
      record {
        within = omega arith;
        leads = λ f exposed. ap (lead_entries tag) (sym (step f exposed));
        misfit = λ f exposed. sym (bad f exposed);
        later = λ e past. past_next old new i e new.entries refl next past;
      }
    where
      step : (f : Image) → Exposes disk f → entries_from f old i ≡ entries_from f new 0
      step f exposed =
          ap (λ (es : List Entry). es ++ entries_after f (last_of None old.entries) old.blocks) (drop_all i old.entries le)
          ∙ ap (entries_after f (last_of None old.entries)) next.split
          ∙ entries_step f (last_of None old.entries) next.block new.blocks new.entries (next.read f exposed) next.after
          ∙ ap (λ (o : Option Entry). new.entries ++ entries_after f o new.blocks) (last_same (last_of None old.entries) new.entries next.some)

      bad : (f : Image) → Exposes disk f → misfit_from f old ≡ misfit_from f new
      bad f exposed =
          ap (misfit_after f (last_of None old.entries)) next.split
          ∙ misfit_step f (last_of None old.entries) next.block new.blocks new.entries (next.read f exposed) next.after
          ∙ ap (λ (o : Option Entry). misfit_after f o new.blocks) (last_same (last_of None old.entries) new.entries next.some)

pub passes_trans : (disk after : DiskView) (tag : List ℕ) (a b c : BlockReading) (i j k : ℕ) → OnlyReads disk after → PassesOver disk tag a i b j → PassesOver after tag b j c k → PassesOver disk tag a i c k
passes_trans disk after tag a b c i j k same one two =
    record {
      within = two.within;
      leads = λ f exposed. two.leads f (same.same ∙ exposed) ∙ one.leads f exposed;
      misfit = λ f exposed. two.misfit f (same.same ∙ exposed) ∙ one.misfit f exposed;
      later = λ e past. two.later e (one.later e past);
    }

-- how far the blocks of an array were read in search of a lead
pub record Reaching (start now : DiskView) (tag : List ℕ) (old : BlockReading) (i : ℕ) (new : BlockReading) (j before after : ℕ) : Type 0 where
  pub passes : PassesOver start tag old i new j
  pub begins : j < length new.entries → begins_with_lead tag (drop j new.entries) new.blocks ≡ true
  pub same : OnlyReads start now
  pub reads : ReadsFront old.blocks new.blocks before after

pub reach_begins : (start : DiskView) (tag : List ℕ) (r : BlockReading) (i j n : ℕ) → (i ≤ j) × (j ≤ length r.entries) → lead_entries tag (drop j r.entries) ≡ lead_entries tag (drop i r.entries)
    → (j < length r.entries → (more : List ℕ) → begins_with_lead tag (drop j r.entries) more ≡ true) → Reaching start start tag r i r j n n
reach_begins start tag r i j n len same begins =
    record { passes = passes_in_block start tag r i j len.0 len.1 same; begins = λ lt. begins lt r.blocks; same = reads_refl start; reads = front_refl r.blocks n }

pub reach_goes_on : (start now after : DiskView) (tag : List ℕ) (old mid new : BlockReading) (i j k before read then : ℕ) → Reaching start now tag old i mid j before read → length mid.entries ≤ j
    → ReadsNext now mid new → OnlyReads now after → ReadsFront mid.blocks new.blocks read then
    → (0 ≤ k) × (k ≤ length new.entries) → lead_entries tag (drop k new.entries) ≡ lead_entries tag (drop 0 new.entries)
    → (k < length new.entries → (more : List ℕ) → begins_with_lead tag (drop k new.entries) more ≡ true) → Reaching start after tag old i new k before then
reach_goes_on start now after tag old mid new i j k before read then reach le next same front len leads begins =
    record {
      passes = passes_trans start now tag old mid new i j k reach.same reach.passes
          (passes_trans now now tag mid new new j 0 k (reads_refl now) (passes_turn now tag mid new j le next) (passes_in_block now tag new 0 k len.0 len.1 leads));
      begins = λ lt. begins lt new.blocks;
      same = reads_trans reach.same same;
      reads = front_trans old.blocks mid.blocks new.blocks before read then reach.reads front;
    }

-- A run over what is left.

module _ (tag : List ℕ) (n : ℕ) (entries : List Entry) (blocks : List ℕ) (settled : is_settled tag entries blocks ≡ true) where
  run_begins : (c : Image) (es : List Entry) (bs : List ℕ) → begins_with_lead tag es bs ≡ true → slice_get es 0 ≡ slice_get (lead_entries tag (es ++ entries_after c (last_of None es) bs)) 0
  run_begins c [] [] begins = ap (λ (xs : List Entry). slice_get (lead_entries tag xs) 0) (sym (nothing_after c None))
  run_begins c [] (b ∷ bs) begins = absurd (true≢false (sym begins))
  run_begins c (e ∷ es) bs begins =
      let more : List Entry = lead_entries tag (es ++ entries_after c (last_of None (e ∷ es)) bs) in
      sym (ap (λ (t : Bool). slice_get (cond t (e ∷ more) more) 0) begins)

  pub lead_run_is : IsEntryRun (leads_from tag n entries blocks)
  lead_run_is =
      let parts' = and_parts (is_ascending entries) (begins_with_lead tag entries blocks) settled in
      record {
        ascending = λ c.
            filter_ascending (λ e. is_tagged tag e.version) (entries ++ entries_after c (last_of None entries) blocks)
            (ascends_both None entries (entries_after c (last_of None entries) blocks) parts'.0 (read_ascends c (last_of None entries) blocks));
        begins = λ c. run_begins c entries blocks parts'.1;
        stays = λ c d agree. ap (λ (xs : List Entry). lead_entries tag (entries ++ xs)) (entries_same c d (last_of None entries) blocks agree);
        fits = λ c d agree. misfit_same c d (last_of None entries) blocks agree;
      }

-- no block is left where no entry is
none_behind : (tag : List ℕ) (entries : List Entry) (blocks : List ℕ) → begins_with_lead tag entries blocks ≡ true → entries ≡ [] → blocks ≡ []
none_behind tag [] [] begins none = refl
none_behind tag [] (b ∷ blocks) begins none = absurd (true≢false (sym begins))
none_behind tag (e ∷ entries) blocks begins none = absurd (cc)

pub last_drop : (i : ℕ) (entries : List Entry) → i < length entries → last_of None (drop i entries) ≡ last_of None entries
last_drop zero entries lt = refl
last_drop (suc i) [] lt = absurd (omega arith)
last_drop (suc i) (e ∷ entries) lt = last_drop i entries (omega arith) ∙ sym (last_same (Some e) entries (omega arith))

-- what a run has left is what is read from its place on
module _ (tag : List ℕ) (r : BlockReading) (i : ℕ) (settled : is_settled tag (drop i r.entries) r.blocks ≡ true) where
  no_blocks : length r.entries ≤ i → r.blocks ≡ []
  no_blocks le = none_behind tag (drop i r.entries) r.blocks (and_parts (is_ascending (drop i r.entries)) (begins_with_lead tag (drop i r.entries) r.blocks) settled).1 (drop_all i r.entries le)

  pub seen_entries : (f : Image) → entries_after f (last_of None (drop i r.entries)) r.blocks ≡ entries_after f (last_of None r.entries) r.blocks
  seen_entries f = elim (cases_lt i (length r.entries)) [
    | inl lt ↦ ap (λ (o : Option Entry). entries_after f o r.blocks) (last_drop i r.entries lt)
    | inr le ↦
        let none = no_blocks le in
        ap (entries_after f (last_of None (drop i r.entries))) none ∙ nothing_after f (last_of None (drop i r.entries))
        ∙ sym (ap (entries_after f (last_of None r.entries)) none ∙ nothing_after f (last_of None r.entries))
  ]

  pub seen_misfit : (f : Image) → misfit_after f (last_of None (drop i r.entries)) r.blocks ≡ misfit_from f r
  seen_misfit f = elim (cases_lt i (length r.entries)) [
    | inl lt ↦ ap (λ (o : Option Entry). misfit_after f o r.blocks) (last_drop i r.entries lt)
    | inr le ↦
        let none = no_blocks le in
        ap (misfit_after f (last_of None (drop i r.entries))) none ∙ no_misfit f (last_of None (drop i r.entries))
        ∙ sym (ap (misfit_after f (last_of None r.entries)) none ∙ no_misfit f (last_of None r.entries))
  ]

  pub seen_left : (n : ℕ) (f : Image) → (leads_from tag n (drop i r.entries) r.blocks).left f ≡ lead_entries tag (entries_from f r i)
  seen_left n f = ap (λ (es : List Entry). lead_entries tag (drop i r.entries ++ es)) (seen_entries f)

pub within_some : (entries : List Entry) (i : ℕ) → IsSome (slice_get (drop i entries) 0) → i < length entries
within_some entries i some = elim (cases_lt i (length entries)) [
  | inl lt ↦ lt
  | inr le ↦ absurd (true≢false (sym some ∙ ap (λ (es : List Entry). is_some (slice_get es 0)) (drop_all i entries le)))
]

-- the first entry that is left stands before all others
is_past : (r : BlockReading) (i : ℕ) (e : Entry) → i < length r.entries → drop i r.entries ≡ e ∷ drop (i + 1) r.entries → is_ascending (drop i r.entries) ≡ true → IsPast e r (i + 1)
is_past r i e lt split up =
    let rest : List Entry = drop (i + 1) r.entries in
    let first : stands_first e rest ≡ true = (and_parts (stands_first e rest) (is_ascending rest) (ap is_ascending (sym split) ∙ up)).0 in
    let last = last_among e rest in
    let same : last_of None r.entries ≡ Some last.0 = sym (last_drop i r.entries lt) ∙ ap (last_of None) split ∙ last.2 in
    record {
      here = first;
      behind = λ d after.
          let less : is_lt (order last.0 d) ≡ true = ap (λ (o : Option Entry). comes_after o (d ∷ [])) (sym same) ∙ after in
          elim last.1 [
            | inl is ↦ ap (λ (x : Entry). is_lt (order x d)) (sym is) ∙ less
            | inr among ↦ ap is_lt (order_trans e last.0 d (first_of e last.0 rest first among) (is_less last.0 d less))
          ];
    }

first_is : (entries : List Entry) (i : ℕ) (e : Entry) → slice_get (drop i entries) 0 ≡ Some e → drop i entries ≡ e ∷ drop (i + 1) entries
first_is entries i e is = elim (cases_lt i (length entries)) [
  | inl lt ↦
      let split = drop_more entries i e lt in
      let same : get_or entries i e ≡ e = let h = ap (λ (es : List Entry). slice_get es 0) (sym split) ∙ is in cc in
      split ∙ ap (λ (x : Entry). x ∷ drop (i + 1) entries) same
  | inr le ↦ absurd (let h = ap (λ (es : List Entry). slice_get es 0) (sym (drop_all i entries le)) ∙ is in cc)
]

head_stands : (e f : Entry) (entries : List Entry) → stands_first e entries ≡ true → slice_get entries 0 ≡ Some f → is_lt (order e f) ≡ true
head_stands e f [] first is = absurd (cc)
head_stands e f (d ∷ entries) first is =
    let same : d ≡ f = cc in
    ap (λ (x : Entry). is_lt (order e x)) (sym same) ∙ (and_parts (is_lt (order e d)) (stands_first e entries) first).0

-- from one lead to the next
pub advanced : (disk : DiskView) (tag : List ℕ) (n : ℕ) (old new : BlockReading) (i j : ℕ) → IsSome (slice_get (drop i old.entries) 0)
    → is_settled tag (drop i old.entries) old.blocks ≡ true → is_settled tag (drop j new.entries) new.blocks ≡ true → PassesOver disk tag old (i + 1) new j
    → Advances disk (leads_from tag n (drop i old.entries) old.blocks) (leads_from tag n (drop j new.entries) new.blocks)
advanced disk tag n old new i j some was is passes =
    record {
      rest = λ c exposed. seen_left tag new j is n c ∙ passes.leads c exposed ∙ sym (one_less c) ∙ ap (drop 1) (sym (seen_left tag old i was n c));
      later = λ e f here there.
          head_stands e f (drop j new.entries) (passes.later e (is_past old i e lt (first_is old.entries i e here) (and_parts (is_ascending (drop i old.entries)) (begins_with_lead tag (drop i old.entries) old.blocks) was).0)).here there;
      bound = refl;
    }
  where
    lt : i < length old.entries
    lt = within_some old.entries i some

    one_less : (c : Image) → drop 1 (lead_entries tag (entries_from c old i)) ≡ lead_entries tag (entries_from c old (i + 1))
    one_less c =
        elim (option_cases (slice_get (drop i old.entries) 0)) [
          | inl none ↦ absurd (true≢false (sym some ∙ ap is_some none))
          | inr e ↦
              let more : List Entry = drop (i + 1) old.entries ++ entries_after c (last_of None old.entries) old.blocks in
              let split = first_is old.entries i e.0 e.1 in
              let lead : is_tagged tag e.0.version ≡ true =
              (and_parts (is_ascending (e.0 ∷ drop (i + 1) old.entries)) (is_tagged tag e.0.version) (ap (λ (es : List Entry). is_settled tag es old.blocks) (sym split) ∙ was)).1 in
              ap (λ (es : List Entry). drop 1 (lead_entries tag (es ++ entries_after c (last_of None old.entries) old.blocks))) split
              ∙ ap (λ (t : Bool). drop 1 (cond t (e.0 ∷ lead_entries tag more) (lead_entries tag more))) lead
        ]

-- a run that begins
pub opened : (disk : DiskView) (tag versions : List ℕ) (n : ℕ) (extents : List Extent) (old new : BlockReading) (j : ℕ) → old ≡ record { entries = []; blocks = blocks_of extents } → tag ≡ versions
    → is_settled tag (drop j new.entries) new.blocks ≡ true → PassesOver disk tag old 0 new j → (f : Image) → Exposes disk f
    → (leads_from tag n (drop j new.entries) new.blocks).left f ≡ lead_entries versions (entries_after f None (blocks_of extents))
opened disk tag versions n extents old new j begun same is passes f exposed =
    seen_left tag new j is n f ∙ passes.leads f exposed
    ∙ ap (λ (r : BlockReading). lead_entries tag (entries_from f r 0)) begun
    ∙ ap (λ (t : List ℕ). lead_entries t (entries_after f None (blocks_of extents))) same

-- a fault that is told as a trouble
pub damage_told : {T U : Type 0} (r : Result T Trouble) (f : Fault) (b : ℕ) → IsErrAnd r (λ e. e ≡ as_trouble f) → r ≡ Err (trouble.Damaged b) → ◌≡◌ {A = Result U Fault} (Err f) (Err (fault.Damaged b))
damage_told r f b told is =
    let p = err_from_is_err_and r told in
    let same : Err p.0 ≡ Err (trouble.Damaged b) = sym p.1 ∙ is in
    let one : p.0 ≡ trouble.Damaged b = cc in
    ap (λ (x : Fault). Err x) (go f (sym p.2 ∙ one))
  where
    go : (f : Fault) → as_trouble f ≡ trouble.Damaged b → f ≡ fault.Damaged b
    go fault.Device is = absurd (cc)
    go (fault.Damaged a) is = let same : a ≡ b = cc in ap (λ (n : ℕ). fault.Damaged n) same

-- a run that is spent has nothing left
pub settled_out : (tag : List ℕ) (i : ℕ) (r : BlockReading) → r ≡ read_out → is_settled tag (drop i r.entries) r.blocks ≡ true
settled_out tag i r out =
    settled_end tag r i (let none : length r.entries ≡ 0 = ap (λ (x : BlockReading). length x.entries) out in omega arith) (ap (λ (x : BlockReading). x.blocks) out)

-- a block that is bad after a call was bad before it
pub bad_before : {T E : Type 0} (r : Result T E) (disk : DiskView) (tag : List ℕ) (old new : BlockReading) (i j : ℕ) → OnOk r (PassesOver disk tag old i new j) → OnErr r (new ≡ read_out)
    → (f : Image) (b : ℕ) → Exposes disk f → misfit_from f new ≡ Some b → misfit_from f old ≡ Some b
bad_before (Ok x) disk tag old new i j passes out f b exposed bad = sym (passes.misfit f exposed) ∙ bad
bad_before (Err e) disk tag old new i j passes out f b exposed bad =
    absurd (let none = sym (ap (misfit_from f) out) ∙ bad in let gone = no_misfit f None in cc)
