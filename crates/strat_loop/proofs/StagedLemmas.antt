-- Changes that were staged one after the other, as exchanges of a run.
use Rattle.std.proofs.Common.{◌≡◌, ◌≤◌, ◌<◌, ℕ, zero, suc, ◌+◌, ◌&&◌, true, ltb, true≢false, List, [], ◌∷◌, ◌++◌, length, map, Option, Some, None, refl, sym, ap, subst, ◌∙◌, inl, inr, length-append, arith}
use Rattle.std.specs.Prelude.{slice_get, is_none}
use Rattle.std.specs.List.{AllByRecursion}
use Rattle.std.proofs.lemmas.Bool.{and_parts, ltb-true}
use Rattle.strat_base.specs.Change.{Change, Put, Delete, Clone, DropVersion}
use Rattle.strat_base.specs.Tree.{Parents}
use Rattle.def_state.specs.State.{tree_after}
use Rattle.def_crash.specs.Moments.{DiskView}
use Rattle.strat_model.specs.Answer.{Answer, plain}
use Rattle.strat_model.specs.Faults.{fault_told}
use Rattle.strat_model.specs.Request.{Request}
use Rattle.strat_model.specs.Request as request
use Rattle.strat_model.specs.Run.{Exchange, Response, IsAfter, is_change, reaches_disk, takes_memory}
use Rattle.strat_model.specs.Table.{Cursor}
use Rattle.strat_model.specs.declared.replies.Reply.{Reply}
use Rattle.strat_model.specs.declared.replies.Reply.TheVariants as reply
use Rattle.def_publish.specs.Contents.{Contents}
use Rattle.strat_memory.specs.Held.{Held, StandsAt}
use Rattle.strat_memory.specs.Memory.{KeepsRows, Memory, memory_after, refusal_of_change}
use Rattle.strat_store.specs.Applying.{change_wanted, may_write}
use Rattle.strat_store.specs.Ranging.{HasPairsFor, HasPairs, page_limit}
use Rattle.strat_store.specs.Staging.{IsStaged, IsStagedAt, has_place, may_stage, position_staged, replies_over, replies_staged, reply_over, takes_staged, with_staged}
use Rattle.strat_loop.specs.Grouping.{StagesBodies, StagesBody, TellsMade}
use Rattle.strat_loop.specs.Speech.{IsAskedFor, IsSpokenChange, IsSpokenRun, Said, SaysByTable, Speech, response_of}
use Rattle.strat_loop.specs.Spoken.{AreSaidTo, SaysCalmly, SaysTo}

over_made : (parents : Parents) (c : Change) → TellsMade (reply_over parents c)
over_made parents (Put version key value) = inl refl
over_made parents (Delete version key) = inl refl
over_made parents (Clone version) = inr (length parents, refl)
over_made parents (DropVersion version) = inl refl

kept_made : (parents : Parents) (batch : List Change) (i : ℕ) (told : Reply) → slice_get (replies_over parents batch) i ≡ Some told → TellsMade told
kept_made parents [] i told e = absurd (let f : ◌≡◌ {A = Option Reply} None (Some told) = e in cc)
kept_made parents (c ∷ batch) zero told e = let same : reply_over parents c ≡ told = (let f : ◌≡◌ {A = Option Reply} (Some (reply_over parents c)) (Some told) = e in cc) in subst TellsMade same (over_made parents c)
kept_made parents (c ∷ batch) (suc i) told e = kept_made (tree_after parents c) batch i told e

-- so does what is kept for a staged change
pub reply_made : (s : Held) (i : ℕ) (told : Reply) → slice_get (replies_staged s) i ≡ Some told → TellsMade told
reply_made s i told e = kept_made _ s.log.batch i told e

-- then no fault is told, a store may have written, there are no pairs, and the reply is short
pub made_calm : (r : Reply) → TellsMade r → fault_told r ≡ None
made_calm r (inl e) = ap fault_told e
made_calm r (inr e) = ap fault_told e.1

made_writes : (r : Reply) → TellsMade r → may_write r ≡ true
made_writes r (inl e) = ap may_write e
made_writes r (inr e) = ap may_write e.1

made_pairs : (limit : ℕ) (r : Reply) → TellsMade r → HasPairs limit r []
made_pairs limit r (inl e) = subst (λ (x : Reply). HasPairs limit x []) (sym e) refl
made_pairs limit r (inr e) = subst (λ (x : Reply). HasPairs limit x []) (sym e.1) refl

-- it is no pair that was found
pub made_no_pair : (r : Reply) → TellsMade r → r ≡ reply.Found → ⊥
made_no_pair r (inl e) found = let f : reply.Done ≡ reply.Found = sym e ∙ found in cc
made_no_pair r (inr e) found = let f : reply.Made e.0 ≡ reply.Found = sym e.1 ∙ found in cc

-- a command that asks for a change may write, reaches the disk and takes memory
pub record AsksFor (r : Request) : Type 0 where
  pub change : is_change r ≡ true
  pub reaches : reaches_disk r ≡ true
  pub takes : takes_memory r ≡ true

pub asks_for : (r : Request) (c : Change) → change_wanted r ≡ Some c → AsksFor r
asks_for (request.Put version key value) c e = record { change = refl; reaches = refl; takes = refl }
asks_for (request.Delete version key) c e = record { change = refl; reaches = refl; takes = refl }
asks_for (request.Clone version) c e = record { change = refl; reaches = refl; takes = refl }
asks_for (request.DropVersion version) c e = record { change = refl; reaches = refl; takes = refl }
asks_for (request.Get version key) c e = absurd (let f : ◌≡◌ {A = Option Change} None (Some c) = e in cc)
asks_for (request.Scan version lo hi limit) c e = absurd (let f : ◌≡◌ {A = Option Change} None (Some c) = e in cc)
asks_for (request.Info version) c e = absurd (let f : ◌≡◌ {A = Option Change} None (Some c) = e in cc)
asks_for request.Stat c e = absurd (let f : ◌≡◌ {A = Option Change} None (Some c) = e in cc)
asks_for (request.OpenCursor version lo hi) c e = absurd (let f : ◌≡◌ {A = Option Change} None (Some c) = e in cc)
asks_for (request.NextPairs cursor limit) c e = absurd (let f : ◌≡◌ {A = Option Change} None (Some c) = e in cc)
asks_for (request.CloseCursor cursor) c e = absurd (let f : ◌≡◌ {A = Option Change} None (Some c) = e in cc)

-- the commands that may be staged ask for a change
pub wanted_where : (s : Held) (r : Request) → may_stage s r ≡ true → (c : Change) × (change_wanted r ≡ Some c)
wanted_where s r may = go (change_wanted r) refl
  where
    go : (o : Option Change) → change_wanted r ≡ o → (c : Change) × (change_wanted r ≡ Some c)
    go None none = absurd (true≢false (sym may ∙ ap (takes_staged s) none))
    go (Some c) some = (c, some)

-- and there is a place for it
pub place_where : (s : Held) (r : Request) → may_stage s r ≡ true → (length s.log.batch < 16) × (length s.log.list + length s.log.batch < s.log.mem)
place_where s r may =
    let wanted = wanted_where s r may in
    let takes : (has_place s.log && is_none (refusal_of_change s.memory wanted.0)) ≡ true = sym (ap (takes_staged s) wanted.1) ∙ may in
    let place = and_parts (has_place s.log) (is_none (refusal_of_change s.memory wanted.0)) takes in
    let both = and_parts (ltb (length s.log.batch) 16) (ltb (length s.log.list + length s.log.batch) s.log.mem) place.0 in
    (ltb-true _ _ both.0, ltb-true _ _ both.1)

-- each change that memory takes counts
counts_on : (m : Memory) (c : Change) → is_none (refusal_of_change m c) ≡ true → (memory_after m c).changes ≡ m.changes + 1
counts_on m (Put version key value) taken = refl
counts_on m (Delete version key) taken = refl
counts_on m (Clone version) taken = refl
counts_on m (DropVersion version) taken = refl

-- a change that a store says it staged
pub staged_by : (old new : Held) (r : Request) → may_stage old r ≡ true → ((c : Change) → change_wanted r ≡ Some c → new ≡ with_staged old c)
    → (c : Change) × (change_wanted r ≡ Some c) × (new ≡ with_staged old c)
staged_by old new r may after = let wanted = wanted_where old r may in (wanted.0, wanted.1, after wanted.0 wanted.1)

-- a store has what it had but for the changes in memory and in its journal's batch
pub record HasStaged (old new : Held) : Type 0 where
  pub slot : new.slot ≡ old.slot
  pub sb : new.sb ≡ old.sb
  pub mem : new.log.mem ≡ old.log.mem
  pub list : new.log.list ≡ old.log.list
  pub cursors : new.memory.cursors ≡ old.memory.cursors
  pub spent : new.spent ≡ old.spent
  pub chained : new.chained ≡ old.chained
  pub levels : new.levels ≡ old.levels
  pub filters : new.filters ≡ old.filters
  pub going : new.promoting ≡ old.promoting

cursors_kept : (m : Memory) (c : Change) → (memory_after m c).cursors ≡ m.cursors
cursors_kept m (Put version key value) = refl
cursors_kept m (Delete version key) = refl
cursors_kept m (Clone version) = refl
cursors_kept m (DropVersion version) = refl

-- a store counts the changes of its table, those that are staged among them
counts_staged : (v : DiskView) (s : Held) (x : Contents) (rows : List Cursor) → IsStaged s → StandsAt v s x rows → s.memory.changes ≡ (position_staged s x rows).table.changes
counts_staged v s x rows staged stands =
    staged.whole.memory.changes ∙ ap (λ (y : Contents). y.chained.manifest.changes + length (y.journal ++ s.log.batch)) (sym stands.stands.held)

-- what staging a change means at a disk
abbrev pub StagesAt : DiskView → Type 0
StagesAt v = (s : Held) (x : Contents) (rows : List Cursor) (r : Request) (c : Change) → IsStaged s → StandsAt v s x rows → change_wanted r ≡ Some c → may_stage s r ≡ true
    → KeepsRows s.memory (memory_after s.memory c) → IsStagedAt v s x rows r (with_staged s c)

module _ (speech : Speech) where
  module _ (old new : Held) (body : List ℕ) (response : Said) (one : StagesBody speech old body response new) where
    abbrev asks : AsksFor one.request
    asks = asks_for one.request one.change one.wanted

    pub told_made : TellsMade one.told
    told_made = reply_made new (length old.log.batch) one.told one.kept

    -- the response tells of no fault
    pub one_calm : fault_told response.answer.reply ≡ None
    one_calm = ap (λ (a : Answer). fault_told a.reply) one.answer ∙ made_calm one.told told_made

    -- and fits the body
    pub one_responds : SaysTo speech body response
    one_responds = (
      old.memory.changes,
      inr (record {
        request = one.request;
        asked = one.asked;
        reached = λ _. asks.reaches;
        short = λ _. asks.takes;
        few = subst (λ (a : Answer). HasPairsFor one.request a) (sym one.answer) (made_pairs (page_limit one.request) one.told told_made);
      }),
    )

    -- the store may have written
    pub one_writes : SaysCalmly speech body response → ⊥
    one_writes calm =
        let wrote : may_write response.answer.reply ≡ true = ap (λ (a : Answer). may_write a.reply) one.answer ∙ made_writes one.told told_made in
        true≢false (sym wrote ∙ calm old.memory.changes one.request one.asked.asks asks.change)

    pub one_counts : new.memory.changes ≡ old.memory.changes + 1
    one_counts =
        let takes : (has_place old.log && is_none (refusal_of_change old.memory one.change)) ≡ true = sym (ap (takes_staged old) one.wanted) ∙ one.may in
        ap (λ (s : Held). s.memory.changes) one.after
        ∙ counts_on old.memory one.change (and_parts (has_place old.log) (is_none (refusal_of_change old.memory one.change)) takes).1

    pub one_staged : length new.log.batch ≡ length old.log.batch + 1
    one_staged = ap (λ (s : Held). length s.log.batch) one.after ∙ length-append old.log.batch (one.change ∷ [])

  -- one more body behind others
  pub stages_more : (old mid new : Held) (bodies : List (List ℕ)) (responses : List Said) (body : List ℕ) (response : Said) → StagesBodies speech old bodies responses mid → StagesBody speech mid body response new
      → StagesBodies speech old (bodies ++ body ∷ []) (responses ++ response ∷ []) new
  stages_more old mid new [] [] body response all one = (new, subst (λ (s : Held). StagesBody speech s body response new) all one, refl)
  stages_more old mid new [] (r ∷ rs) body response all one = absurd all
  stages_more old mid new (b ∷ bs) [] body response all one = absurd all
  stages_more old mid new (b ∷ bs) (r ∷ rs) body response all one = (all.0, all.1, stages_more all.0 mid new bs rs body response all.2 one)

  -- the responses fit the bodies
  pub staged_answered : (old new : Held) (bodies : List (List ℕ)) (responses : List Said) → StagesBodies speech old bodies responses new → AreSaidTo speech bodies responses
  staged_answered old new [] [] all = tt
  staged_answered old new [] (r ∷ rs) all = absurd all
  staged_answered old new (b ∷ bs) [] all = absurd all
  staged_answered old new (b ∷ bs) (r ∷ rs) all = (one_responds old all.0 b r all.1, staged_answered all.0 new bs rs all.2)

  -- and tell of no fault
  pub staged_quiet : (old new : Held) (bodies : List (List ℕ)) (responses : List Said) → StagesBodies speech old bodies responses new → AllByRecursion (λ (r : Said). fault_told r.answer.reply ≡ None) responses
  staged_quiet old new [] [] all = tt
  staged_quiet old new [] (r ∷ rs) all = absurd all
  staged_quiet old new (b ∷ bs) [] all = absurd all
  staged_quiet old new (b ∷ bs) (r ∷ rs) all = (one_calm old all.0 b r all.1, staged_quiet all.0 new bs rs all.2)

  -- one for each
  pub staged_count : (old new : Held) (bodies : List (List ℕ)) (responses : List Said) → StagesBodies speech old bodies responses new → length new.log.batch ≡ length old.log.batch + length bodies
  staged_count old new [] [] all = omega (arith, ap (λ (s : Held). length s.log.batch) all)
  staged_count old new [] (r ∷ rs) all = absurd all
  staged_count old new (b ∷ bs) [] all = absurd all
  staged_count old new (b ∷ bs) (r ∷ rs) all = omega (arith, one_staged old all.0 b r all.1, staged_count all.0 new bs rs all.2)

  pub has_staged : (old new : Held) (bodies : List (List ℕ)) (responses : List Said) → StagesBodies speech old bodies responses new → HasStaged old new
  has_staged old new [] [] all = subst (λ (s : Held). HasStaged old s) (sym all) (record { slot = refl; sb = refl; mem = refl; list = refl; cursors = refl; spent = refl; chained = refl; levels = refl; filters = refl; going = refl })
  has_staged old new [] (r ∷ rs) all = absurd all
  has_staged old new (b ∷ bs) [] all = absurd all
  has_staged old new (b ∷ bs) (r ∷ rs) all =
      let one = all.1 in
      let rest = has_staged all.0 new bs rs all.2 in
      record {
        slot = rest.slot ∙ ap (λ (s : Held). s.slot) one.after;
        sb = rest.sb ∙ ap (λ (s : Held). s.sb) one.after;
        mem = rest.mem ∙ ap (λ (s : Held). s.log.mem) one.after;
        list = rest.list ∙ ap (λ (s : Held). s.log.list) one.after;
        cursors = rest.cursors ∙ ap (λ (s : Held). s.memory.cursors) one.after ∙ cursors_kept old.memory one.change;
        spent = rest.spent ∙ ap (λ (s : Held). s.spent) one.after;
        chained = rest.chained ∙ ap (λ (s : Held). s.chained) one.after;
        levels = rest.levels ∙ ap (λ (s : Held). s.levels) one.after;
        filters = rest.filters ∙ ap (λ (s : Held). s.filters) one.after;
        going = rest.going ∙ ap (λ (s : Held). s.promoting) one.after;
      }

  -- bodies that were staged are exchanges from one position to another, where the store stands
  pub record IsStagedRun (v : DiskView) (mem : ℕ) (old new : Held) (x : Contents) (rows : List Cursor) (bodies : List (List ℕ)) (responses : List Said) : Type 0 where
    pub exchanges : List Exchange
    pub run : IsSpokenRun speech mem (position_staged old x rows) exchanges responses (position_staged new x rows)
    pub made : AllByRecursion (IsSpokenChange speech mem) exchanges
    pub bodies_are : map (λ (e : Exchange). e.body) exchanges ≡ bodies
    pub answers_are : map response_of responses ≡ map (λ (e : Exchange). e.response) exchanges
    pub stands : StandsAt v new x rows

  module _ (v : DiskView) (law : StagesAt v) (x : Contents) (rows : List Cursor) (mem : ℕ) where
    module _ (old new : Held) (body : List ℕ) (response : Said) (one : StagesBody speech old body response new) (stands : StandsAt v old x rows) (same : old.log.mem ≡ mem) where
      pub one_at : IsStagedAt v old x rows one.request new
      one_at = subst (λ (s : Held). IsStagedAt v old x rows one.request s) (sym one.after) (law old x rows one.request one.change one.staged stands one.wanted one.may one.rows)

      pub one_by : SaysByTable speech mem (position_staged old x rows) body response (position_staged new x rows)
      one_by =
          let told : one.told ≡ one_at.told = (let f : ◌≡◌ {A = Option Reply} (Some one.told) (Some one_at.told) = sym one.kept ∙ one_at.kept in cc) in
          record {
            request = one.request;
            asked = subst (λ (n : ℕ). IsAskedFor speech n body one.request response) (counts_staged v old x rows one.staged stands) one.asked;
            answer = one.answer ∙ ap plain told ∙ sym one_at.answer;
            place = subst (λ (m : ℕ). IsAfter m (position_staged old x rows) one.request (position_staged new x rows)) same one_at.place;
          }

      abbrev exchange : Exchange
      exchange = record { body = body; response = response_of response; at = position_staged old x rows }

      pub one_made : IsSpokenChange speech mem exchange
      unfolding one_by
      one_made = record { said = response; response = refl; after = position_staged new x rows; by = one_by; made = one_at.carried }

    pub staged_run : (old new : Held) (bodies : List (List ℕ)) (responses : List Said) → StagesBodies speech old bodies responses new → StandsAt v old x rows → old.log.mem ≡ mem
        → IsStagedRun v mem old new x rows bodies responses
    staged_run old new [] [] all stands same = record {
      exchanges = [];
      run = ap (λ (s : Held). position_staged s x rows) all;
      made = tt;
      bodies_are = refl;
      answers_are = refl;
      stands = subst (λ (s : Held). StandsAt v s x rows) (sym all) stands;
    }
    staged_run old new [] (r ∷ rs) all stands same = absurd all
    staged_run old new (b ∷ bs) [] all stands same = absurd all
    staged_run old new (b ∷ bs) (r ∷ rs) all stands same =
        let mid = all.0 in
        let one = all.1 in
        let rest = staged_run mid new bs rs all.2 (one_at old mid b r one stands same).stands (ap (λ (s : Held). s.log.mem) one.after ∙ same) in
        record {
          exchanges = exchange old mid b r one stands same ∷ rest.exchanges;
          run = (refl, refl, (position_staged mid x rows, inr (inl (one_by old mid b r one stands same)), rest.run));
          made = (one_made old mid b r one stands same, rest.made);
          bodies_are = ap (λ (l : List (List ℕ)). b ∷ l) rest.bodies_are;
          answers_are = ap (λ (l : List Response). response_of r ∷ l) rest.answers_are;
          stands = rest.stands;
        }

  -- no more than sixteen
  pub staged_few : (old new : Held) (bodies : List (List ℕ)) (responses : List Said) → StagesBodies speech old bodies responses new → length old.log.batch ≤ 16 → length new.log.batch ≤ 16
  staged_few old new [] [] all few = omega (arith, few, ap (λ (s : Held). length s.log.batch) all)
  staged_few old new [] (r ∷ rs) all few = absurd all
  staged_few old new (b ∷ bs) [] all few = absurd all
  staged_few old new (b ∷ bs) (r ∷ rs) all few =
      staged_few all.0 new bs rs all.2 (omega (arith, one_staged old all.0 b r all.1, (place_where old all.1.request all.1.may).0))
