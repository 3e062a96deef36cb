-- What a leader's run writes are the frames of the changes that it carried out, which are the next ones of a log.
use Rattle.std.proofs.Common.{◌≡◌, ◌⊎◌, ◌+◌, ℕ, suc, ◌==◌, Bool, true, false, not, List, [], ◌∷◌, ◌++◌, Option, Some, None, length, find, refl, sym, ap, ◌∙◌, subst, inl, inr, arith, append_assoc}
use Rattle.std.specs.List.{list_any}
use Rattle.std.specs.Option.{option_map_or}
use Rattle.std.proofs.lemmas.Bool.{cases_Bool}
use Rattle.strat_base.specs.Change.{Change}
use Rattle.strat_base.specs.Change as change
use Rattle.strat_base.specs.declared.limits.TheConstants.{CURSORS_MAX}
use Rattle.strat_model.specs.declared.replies.Refusal.TheVariants as why
use Rattle.strat_model.specs.Answer.{Answer, accepts}
use Rattle.strat_model.specs.Request.{Request, Put, Delete, Get, Clone, Scan, Info, OpenCursor, NextPairs, CloseCursor, Stat, DropVersion}
use Rattle.strat_model.specs.Run.{Exchange, IsAfter, Position, Response, is_change}
use Rattle.strat_model.specs.Spelling.{Spells}
use Rattle.strat_model.specs.Step.{Outcome, step, has_row, page, refuses, advanced}
use Rattle.strat_model.specs.Table.{Cursor, Table, bare}
use Rattle.strat_model.proofs.TableLemmas.{chosen}
use Rattle.def_meaning.specs.StateTable.{request_for}
use Rattle.def_meaning.proofs.StateTableLemmas.{change_bare}
use Rattle.def_follow.specs.Log.{after_change, table_after, AreTakenFrom}
use Rattle.def_follow.specs.Numbered.{change_frame}
use Rattle.def_follow.proofs.LogLemmas.{change_counts}
use Rattle.strat_store.specs.Applying.{change_wanted}
use Rattle.strat_loop.specs.Speech.{Said, Says, IsSpokenRun, response_of, said_bytes}
use Rattle.strat_follow.specs.Leads.{AreMade, Makes, MakesNone, change_frames, frame_made, leads}

-- a command that asks for no change is none, and leaves what outlasts a run
abbrev Quiet : Table → Request → Type 0
Quiet t q = (is_change q ≡ false) × (bare (step t q).table ≡ bare t)

quiet : (t : Table) (q : Request) → change_wanted q ≡ None → Quiet t q
quiet t q none = by_command q none
  where
    Same : Outcome → Type 0
    Same o = bare o.table ≡ bare t

    next : (n limit : ℕ) (found : Option Cursor)
        → Same (option_map_or (λ c. record { answer = page c.left limit; table = record t { cursors = advanced t.cursors n limit } }) found (refuses t why.UnknownCursor))
    next n limit None = refl
    next n limit (Some c) = refl

    by_command : (r : Request) → change_wanted r ≡ None → Quiet t r
    by_command (Put v key value) e = absurd (let f : ◌≡◌ {A = Option Change} (Some (change.Put v key value)) None = e in cc)
    by_command (Delete v key) e = absurd (let f : ◌≡◌ {A = Option Change} (Some (change.Delete v key)) None = e in cc)
    by_command (Get v key) e = (refl, chosen Same (has_row t v) _ _ (λ _. refl) (λ _. refl))
    by_command (Clone v) e = absurd (let f : ◌≡◌ {A = Option Change} (Some (change.Clone v)) None = e in cc)
    by_command (DropVersion v) e = absurd (let f : ◌≡◌ {A = Option Change} (Some (change.DropVersion v)) None = e in cc)
    by_command (Scan v lo hi limit) e = (refl, chosen Same (has_row t v) _ _ (λ _. refl) (λ _. refl))
    by_command (Info v) e = (refl, chosen Same (has_row t v) _ _ (λ _. refl) (λ _. refl))
    by_command (OpenCursor v lo hi) e =
        (refl, chosen Same (not (has_row t v)) _ _ (λ _. refl) (λ _. chosen Same (length t.cursors == CURSORS_MAX) _ _ (λ _. refl) (λ _. refl)))
    by_command (NextPairs n limit) e = (refl, next n limit (find (λ c. c.number == n) t.cursors))
    by_command (CloseCursor n) e = (refl, chosen Same (list_any (λ c. c.number == n) t.cursors) _ _ (λ _. refl) (λ _. refl))
    by_command Stat e = (refl, refl)

-- a command that asks for a change is the one that asks for it
asks_it : (q : Request) (c : Change) → change_wanted q ≡ Some c → q ≡ request_for c
asks_it (Put v key value) c e = let f : Some (change.Put v key value) ≡ Some c = e in let same : change.Put v key value ≡ c = cc in ap request_for same
asks_it (Delete v key) c e = let f : Some (change.Delete v key) ≡ Some c = e in let same : change.Delete v key ≡ c = cc in ap request_for same
asks_it (Clone v) c e = let f : Some (change.Clone v) ≡ Some c = e in let same : change.Clone v ≡ c = cc in ap request_for same
asks_it (DropVersion v) c e = let f : Some (change.DropVersion v) ≡ Some c = e in let same : change.DropVersion v ≡ c = cc in ap request_for same
asks_it (Get v key) c e = absurd (let f : ◌≡◌ {A = Option Change} None (Some c) = e in cc)
asks_it (Scan v lo hi limit) c e = absurd (let f : ◌≡◌ {A = Option Change} None (Some c) = e in cc)
asks_it (Info v) c e = absurd (let f : ◌≡◌ {A = Option Change} None (Some c) = e in cc)
asks_it (OpenCursor v lo hi) c e = absurd (let f : ◌≡◌ {A = Option Change} None (Some c) = e in cc)
asks_it (NextPairs n limit) c e = absurd (let f : ◌≡◌ {A = Option Change} None (Some c) = e in cc)
asks_it (CloseCursor n) c e = absurd (let f : ◌≡◌ {A = Option Change} None (Some c) = e in cc)
asks_it Stat c e = absurd (let f : ◌≡◌ {A = Option Change} None (Some c) = e in cc)

-- nothing is sent for what was refused, nor for what asks for no change
pub denied_frame : (n : ℕ) (o : Option Change) (b : Bool) → b ≡ false → frame_made n b o ≡ []
denied_frame n None b e = ap (λ (x : Bool). frame_made n x None) e
denied_frame n (Some c) b e = ap (λ (x : Bool). frame_made n x (Some c)) e

quiet_frame : (n : ℕ) (b : Bool) → frame_made n b None ≡ []
quiet_frame n true = refl
quiet_frame n false = refl

-- a body that made no change
record MadeNone (at : Position) (x : Exchange) (said : Said) (after : Position) : Type 0 where
  none : MakesNone x
  sent : said.sent ≡ []
  table : bare after.table ≡ bare at.table

-- and one that made one
record MadeOne (at : Position) (x : Exchange) (said : Said) (after : Position) : Type 0 where
  made : Change
  makes : Makes x made
  sent : said.sent ≡ change_frame (record { number = at.table.changes; change = made })
  count : after.table.changes ≡ at.table.changes + 1
  taken : accepts (step (bare at.table) (request_for made)).answer.reply ≡ true
  table : after_change (bare at.table) made ≡ bare after.table

module _ (mem : ℕ) (at : Position) (x : Exchange) (said : Said) (mid : Position) (same : x.response ≡ response_of said) where
  refused_none : accepts said.answer.reply ≡ false → MakesNone x
  refused_none denied = inl (ap (λ (r : Response). accepts r.answer.reply) same ∙ denied)

  -- what was carried out as the table says
  by_table : (q : Request) → Spells x.body said.tag q → said.sent ≡ frame_made at.table.changes (accepts said.answer.reply) (change_wanted q) → said.answer ≡ (step at.table q).answer
      → IsAfter mem at q mid → MadeNone at x said mid ⊎ MadeOne at x said mid
  by_table q spelled sent answer place = go (change_wanted q) refl
    where
      go : (o : Option Change) → change_wanted q ≡ o → MadeNone at x said mid ⊎ MadeOne at x said mid
      go None e =
          let still = quiet at.table q e in
          inl (record {
            none = inr (q, subst (λ (r : Response). Spells x.body r.tag q) (sym same) spelled, still.0);
            sent = sent ∙ ap (frame_made at.table.changes (accepts said.answer.reply)) e ∙ quiet_frame at.table.changes (accepts said.answer.reply);
            table = ap bare place.table ∙ still.1;
          })
      go (Some c) e =
          let is : q ≡ request_for c = asks_it q c e in
          let told : said.answer ≡ (step at.table (request_for c)).answer = answer ∙ ap (λ (r : Request). (step at.table r).answer) is in
          let after : mid.table ≡ (step at.table (request_for c)).table = place.table ∙ ap (λ (r : Request). (step at.table r).table) is in
          let counts = change_counts at.table c in
          let bared = change_bare at.table c in
          elim (cases_Bool (accepts (step at.table (request_for c)).answer.reply)) [
            | inl taken ↦
                let carried : accepts said.answer.reply ≡ true = ap (λ (a : Answer). accepts a.reply) told ∙ taken in
                inr (record {
                  made = c;
                  makes = record {
                    spelled = subst (λ (r : Response). Spells x.body r.tag (request_for c)) (sym same) (subst (Spells x.body said.tag) is spelled);
                    carried = ap (λ (r : Response). accepts r.answer.reply) same ∙ carried;
                  };
                  sent = sent ∙ (λ i. frame_made at.table.changes (carried i) (e i));
                  count = ap (λ (t : Table). t.changes) after ∙ counts.0 taken;
                  taken = ap (λ (a : Answer). accepts a.reply) (sym bared.1) ∙ taken;
                  table = sym bared.0 ∙ ap bare (sym after);
                })
            | inr denied ↦
                let refused : accepts said.answer.reply ≡ false = ap (λ (a : Answer). accepts a.reply) told ∙ denied in
                inl (record {
                  none = refused_none refused;
                  sent = sent ∙ denied_frame at.table.changes (change_wanted q) (accepts said.answer.reply) refused;
                  table = ap bare (after ∙ counts.1 denied);
                })
          ]

  -- what is said to one body
  made_by : Says leads mem at x.body said mid → MadeNone at x said mid ⊎ MadeOne at x said mid
  made_by (inl none) = inl (record {
    none = refused_none (ap (λ (a : Answer). accepts a.reply) none.declined.declines.answer);
    sent = none.declined.declines.none;
    table = ap (λ (p : Position). bare p.table) none.same;
  })
  made_by (inr (inl by)) = by_table by.request by.asked.asks by.asked.text by.answer by.place
  made_by (inr (inr by)) =
      let refused : accepts said.answer.reply ≡ false = ap (λ (a : Answer). accepts a.reply) by.answer in
      inl (record {
        none = refused_none refused;
        sent = by.asked.text ∙ denied_frame at.table.changes (change_wanted by.request) (accepts said.answer.reply) refused;
        table = ap (λ (p : Position). bare p.table) by.same;
      })

-- a run that leads
pub record RunMade (at : Position) (xs : List Exchange) (answers : List Said) (after : Position) : Type 0 where
  pub made : List Change
  pub are_made : AreMade xs made
  pub sent : said_bytes answers ≡ change_frames at.table.changes made
  pub takes : AreTakenFrom (bare at.table) made
  pub table : table_after (bare at.table) made ≡ bare after.table

pub run_made : (mem : ℕ) (at : Position) (xs : List Exchange) (answers : List Said) (after : Position) → IsSpokenRun leads mem at xs answers after → RunMade at xs answers after
run_made mem at [] [] after run = record { made = []; are_made = refl; sent = refl; takes = tt; table = ap (λ (p : Position). bare p.table) (sym run) }
run_made mem at [] (said ∷ more) after run = absurd run
run_made mem at (x ∷ xs) [] after run = absurd run
run_made mem at (x ∷ xs) (said ∷ more) after run =
    let mid = run.2.0 in
    let rest = run_made mem mid xs more after run.2.2 in
    elim (made_by mem at x said mid run.1 run.2.1) [
      | inl none ↦
          let count : mid.table.changes ≡ at.table.changes = ap (λ (t : Table). t.changes) none.table in record {
            made = rest.made;
            are_made = inl (none.none, rest.are_made);
            sent = (λ i. none.sent i ++ rest.sent i) ∙ ap (λ (n : ℕ). change_frames n rest.made) count;
            takes = subst (λ (t : Table). AreTakenFrom t rest.made) none.table rest.takes;
            table = ap (λ (t : Table). table_after t rest.made) (sym none.table) ∙ rest.table;
          }
      | inr one ↦
          let next : at.table.changes + 1 ≡ suc at.table.changes = omega arith in record {
            made = one.made ∷ rest.made;
            are_made = inr (one.made, rest.made, one.makes, refl, rest.are_made);
            sent = (λ i. one.sent i ++ rest.sent i) ∙ ap (λ (n : ℕ). change_frame (record { number = at.table.changes; change = one.made }) ++ change_frames n rest.made) (one.count ∙ next);
            takes = (one.taken, subst (λ (t : Table). AreTakenFrom t rest.made) (sym one.table) rest.takes);
            table = ap (λ (t : Table). table_after t rest.made) one.table ∙ rest.table;
          }
    ]

-- the frames of two lists of changes, one behind the other
pub frames_then : (n : ℕ) (a b : List Change) → change_frames n (a ++ b) ≡ change_frames n a ++ change_frames (n + length a) b
frames_then n [] b = let z : n ≡ n + 0 = omega arith in ap (λ (k : ℕ). change_frames k b) z
frames_then n (c ∷ a) b =
    let z : suc n + length a ≡ n + suc (length a) = omega arith in
    ap (λ (l : List ℕ). change_frame (record { number = n; change = c }) ++ l) (frames_then (suc n) a b ∙ ap (λ (k : ℕ). change_frames (suc n) a ++ change_frames k b) z)
    ∙ sym (append_assoc (change_frame (record { number = n; change = c })) (change_frames (suc n) a) (change_frames (n + suc (length a)) b))
