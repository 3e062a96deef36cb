-- What a run tells of commands for which memory ran out.
use Rattle.std.proofs.Common.{◌≡◌, ◌==◌, ℕ, Bool, true, false, not, cond, eqb, List, length, Option, Some, None, refl, sym, ap, ◌∙◌, true≢false, inl, inr}
use Rattle.std.specs.Prelude.{find}
use Rattle.std.specs.List.{list_any}
use Rattle.std.specs.Option.{option_map_or}
use Rattle.strat_base.specs.declared.limits.TheConstants.{CURSORS_MAX}
use Rattle.strat_model.specs.declared.replies.Reply.{Reply}
use Rattle.strat_model.specs.declared.replies.Reply.TheVariants as reply
use Rattle.strat_model.specs.declared.replies.Refusal.{Refusal}
use Rattle.strat_model.specs.declared.replies.Refusal.TheVariants as why
use Rattle.strat_model.specs.Answer.{Answer, refusal, accepts}
use Rattle.strat_model.specs.Request.{Request, Put, Delete, Get, Clone, Scan, Info, OpenCursor, NextPairs, CloseCursor, Stat, DropVersion}
use Rattle.strat_model.specs.Run.{Position, Response, Answers, takes_memory}
use Rattle.strat_model.specs.Spelling.{Spells, IsRefusedAs}
use Rattle.strat_model.specs.Step.{Outcome, replies_with, refuses, found, page, advanced, step, has_row, is_frozen, pairs_at}
use Rattle.strat_model.specs.Pairs.{value_of}
use Rattle.strat_model.specs.Table.{Table, Cursor}
use Rattle.strat_model.proofs.TableLemmas.{chosen}

-- a reply tells that memory ran out
abbrev is_short : Reply → Bool
is_short (reply.Refused why.NoMemory) = true
is_short _ = false

-- no step answers so
abbrev IsAmple : Outcome → Type 0
IsAmple o = is_short o.answer.reply ≡ false

three : (a b c : Bool) (t : Table) (p q r : Refusal) (made : Outcome) → IsAmple (refuses t p) → IsAmple (refuses t q) → IsAmple (refuses t r) → IsAmple made
    → IsAmple (cond a (refuses t p) (cond b (refuses t q) (cond c (refuses t r) made)))
three true b c t p q r made x y z m = x
three false true c t p q r made x y z m = y
three false false true t p q r made x y z m = z
three false false false t p q r made x y z m = m

one : (b : Bool) (t : Table) (a : Answer) (p : Refusal) → IsAmple (replies_with t a) → IsAmple (refuses t p) → IsAmple (cond b (replies_with t a) (refuses t p))
one true t a p x y = x
one false t a p x y = y

get_ample : (t : Table) (key : List ℕ) (o : Option (List ℕ)) → IsAmple (replies_with t (found key o))
get_ample t key None = refl
get_ample t key (Some value) = refl

next_ample : (t : Table) (n limit : ℕ) (o : Option Cursor)
    → IsAmple (option_map_or (λ c. record { answer = page c.left limit; table = record t { cursors = advanced t.cursors n limit } }) o (refuses t why.UnknownCursor))
next_ample t n limit None = refl
next_ample t n limit (Some c) = refl

step_ample : (t : Table) (r : Request) → IsAmple (step t r)
step_ample t (Put v key value) = three (not (has_row t v)) (is_frozen t v) (eqb t.changes t.changes_max) t why.UnknownVersion why.Frozen why.ChangeLimit _ refl refl refl refl
step_ample t (Delete v key) = three (not (has_row t v)) (is_frozen t v) (eqb t.changes t.changes_max) t why.UnknownVersion why.Frozen why.ChangeLimit _ refl refl refl refl
step_ample t (Get v key) = one (has_row t v) t (found key (value_of (pairs_at t v) key)) why.UnknownVersion (get_ample t key (value_of (pairs_at t v) key)) refl
step_ample t (Clone v) = three (not (has_row t v)) (eqb (length t.rows) t.versions_max) (eqb t.changes t.changes_max) t why.UnknownVersion why.VersionLimit why.ChangeLimit _ refl refl refl refl
step_ample t (Scan v lo hi limit) = one (has_row t v) t _ why.UnknownVersion refl refl
step_ample t (Info v) = one (has_row t v) t _ why.UnknownVersion refl refl
step_ample t (OpenCursor v lo hi) = three (not (has_row t v)) (eqb (length t.cursors) CURSORS_MAX) false t why.UnknownVersion why.CursorLimit why.CursorLimit _ refl refl refl refl
step_ample t (NextPairs n limit) = next_ample t n limit (find (λ c. c.number == n) t.cursors)
step_ample t (CloseCursor n) = chosen IsAmple (list_any (λ c. c.number == n) t.cursors) _ _ (λ _. refl) (λ _. refl)
step_ample t Stat = refl
step_ample t (DropVersion v) =
    chosen IsAmple (not (has_row t v)) _ _ (λ _. refl) (λ _.
    three (eqb v 0) (is_frozen t v) (eqb t.changes t.changes_max) t why.Root why.Frozen why.ChangeLimit _ refl refl refl refl)

-- the answer that memory ran out is none other
not_short : (a : Answer) → a ≡ refusal why.NoMemory → is_short a.reply ≡ false → ⊥
not_short a e other = true≢false (sym (ap (λ (x : Answer). is_short x.reply) e) ∙ other)

-- no body is refused so
no_reason : (body : List ℕ) (tag : ℕ) (cause : Refusal) → IsRefusedAs body tag cause → is_short (reply.Refused cause) ≡ false
no_reason body tag why.Malformed is = refl
no_reason body tag why.KeySize is = refl
no_reason body tag why.ValueSize is = refl
no_reason body tag why.ScanSize is = refl
no_reason body tag _ is = absurd is

-- memory runs out for a command alone that takes some and that the table accepts
pub short_of : (mem : ℕ) (at : Position) (body : List ℕ) (response : Response) (after : Position) → Answers mem at body response after → response.answer ≡ refusal why.NoMemory
    → (request : Request) × Spells body response.tag request × (takes_memory request ≡ true) × (accepts (step at.table request).answer.reply ≡ true) × (after ≡ at)
short_of mem at body response after (inl x) e =
    absurd (not_short (refusal x.cause) (sym x.answer ∙ e) (no_reason body response.tag x.cause x.refused))
short_of mem at body response after (inr (inl x)) e = absurd (not_short (step at.table x.request).answer (sym x.answer ∙ e) (step_ample at.table x.request))
short_of mem at body response after (inr (inr x)) e = (x.request, x.spelled, x.takes, x.accepted, x.same)
