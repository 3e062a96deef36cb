-- Logs, and the tables after their prefixes.
use Rattle.std.proofs.Common.{◌≡◌, ◌+◌, ℕ, zero, suc, ◌==◌, true, false, not, List, [], ◌∷◌, Option, Some, None, length, take, refl, ap, subst, arith}
use Rattle.std.specs.Prelude.{slice_get}
use Rattle.strat_base.specs.Change.{Change}
use Rattle.strat_base.specs.Change as change
use Rattle.strat_model.specs.declared.replies.Refusal.{Refusal}
use Rattle.strat_model.specs.declared.replies.Refusal.TheVariants as why
use Rattle.strat_model.specs.Answer.{accepts}
use Rattle.strat_model.specs.Pairs.{Pairs, set, unset}
use Rattle.strat_model.specs.Step.{Outcome, step, refuses, update, clone, drop_version, has_row, is_frozen, pairs_at}
use Rattle.strat_model.specs.Table.{Table}
use Rattle.strat_model.proofs.TableLemmas.{chosen}
use Rattle.def_meaning.specs.StateTable.{request_for}
use Rattle.def_follow.specs.Log.{after_change, IsTakenAt, table_after, AreTakenFrom}

-- an outcome that accepts has one change more, and one that refuses leaves the table
abbrev Counts : Table → Outcome → Type 0
Counts t o = (accepts o.answer.reply ≡ true → o.table.changes ≡ t.changes + 1) × (accepts o.answer.reply ≡ false → o.table ≡ t)

refused_counts : (t : Table) (cause : Refusal) → Counts t (refuses t cause)
refused_counts t cause = ((λ h. absurd (let f : false ≡ true = h in cc)), (λ _. refl))

update_counts : (t : Table) (v : ℕ) (pairs : Pairs) → Counts t (update t v pairs)
update_counts t v pairs =
    chosen (Counts t) (not (has_row t v)) _ _ (λ _. refused_counts t why.UnknownVersion) (λ _.
    chosen (Counts t) (is_frozen t v) _ _ (λ _. refused_counts t why.Frozen) (λ _.
    chosen (Counts t) (t.changes == t.changes_max) _ _ (λ _. refused_counts t why.ChangeLimit) (λ _. ((λ h. refl), (λ h. absurd cc)))))

clone_counts : (t : Table) (v : ℕ) → Counts t (clone t v)
clone_counts t v =
    chosen (Counts t) (not (has_row t v)) _ _ (λ _. refused_counts t why.UnknownVersion) (λ _.
    chosen (Counts t) (length t.rows == t.versions_max) _ _ (λ _. refused_counts t why.VersionLimit) (λ _.
    chosen (Counts t) (t.changes == t.changes_max) _ _ (λ _. refused_counts t why.ChangeLimit) (λ _. ((λ h. refl), (λ h. absurd cc)))))

drop_counts : (t : Table) (v : ℕ) → Counts t (drop_version t v)
drop_counts t v =
    chosen (Counts t) (not (has_row t v)) _ _ (λ _. refused_counts t why.UnknownVersion) (λ _.
    chosen (Counts t) (v == 0) _ _ (λ _. refused_counts t why.Root) (λ _.
    chosen (Counts t) (is_frozen t v) _ _ (λ _. refused_counts t why.Frozen) (λ _.
    chosen (Counts t) (t.changes == t.changes_max) _ _ (λ _. refused_counts t why.ChangeLimit) (λ _. ((λ h. refl), (λ h. absurd cc))))))

pub change_counts : (t : Table) (c : Change) → Counts t (step t (request_for c))
change_counts t (change.Put v key value) = update_counts t v (set key value (pairs_at t v))
change_counts t (change.Delete v key) = update_counts t v (unset key (pairs_at t v))
change_counts t (change.Clone v) = clone_counts t v
change_counts t (change.DropVersion v) = drop_counts t v

pub after_counts : (t : Table) (log : List Change) → AreTakenFrom t log → (table_after t log).changes ≡ t.changes + length log
after_counts t [] taken = omega arith
after_counts t (c ∷ log) taken = omega (arith, after_counts (after_change t c) log taken.1, (change_counts t c).0 taken.0)

-- the n-th change of a log is accepted after the first n, and leads to the table after one more
pub one_more : (t : Table) (log : List Change) (n : ℕ) (c : Change) → AreTakenFrom t log → slice_get log n ≡ Some c
    → IsTakenAt (table_after t (take n log)) c × (table_after t (take (suc n) log) ≡ after_change (table_after t (take n log)) c)
one_more t [] n c taken e = absurd (let f : ◌≡◌ {A = Option Change} None (Some c) = e in cc)
one_more t (x ∷ xs) zero c taken e = let same : x ≡ c = cc in (subst (IsTakenAt t) same taken.0, ap (after_change t) same)
one_more t (x ∷ xs) (suc n) c taken e = one_more (after_change t x) xs n c taken.1 e

-- the first changes of a log are a log
pub front_taken : (t : Table) (log : List Change) (n : ℕ) → AreTakenFrom t log → AreTakenFrom t (take n log)
front_taken t [] zero taken = tt
front_taken t [] (suc n) taken = tt
front_taken t (x ∷ xs) zero taken = tt
front_taken t (x ∷ xs) (suc n) taken = (taken.0, front_taken (after_change t x) xs n taken.1)
