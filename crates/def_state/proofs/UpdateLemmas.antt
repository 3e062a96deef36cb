-- Updates that are set one after another, and what is left of them.
use Rattle.std.proofs.Common.{◌≡◌, ℕ, Bool, true, false, cond, inl, inr, List, [], ◌∷◌, ◌++◌, reverse, Option, Some, None, refl, sym, ap, ◌∙◌}
use Rattle.std.specs.List.{find, fold}
use Rattle.std.specs.Option.{option_or}
use Rattle.std.proofs.lemmas.List.{reverse-append}
use Rattle.strat_base.specs.Tree.{Parents, path, IsTree}
use Rattle.strat_base.specs.Entries.{Entry, is_at, is_ascending, latest}
use Rattle.def_state.specs.Reading.{live_of}
use Rattle.def_state.specs.Setting.{set_entry, set_all}
use Rattle.strat_base.proofs.ListFacts.{Among}
use Rattle.def_state.proofs.LevelLemmas.{ascending_single}
use Rattle.def_state.proofs.LiveLemmas.{deciding_live}
use Rattle.def_state.proofs.ReadingLemmas.{find-append}
use Rattle.def_state.proofs.SoundLemmas.{latest_single, find-latest}
use Rattle.def_state.proofs.SettingLemmas.{set_ascending, set_among, find_set}
use Rattle.def_state.proofs.ValueLemmas.{first_same}

-- from some entries on
abbrev set_onto : List Entry → List Entry → List Entry
set_onto entries updates = fold (λ es e. set_entry e es) entries updates

onto_ascending : (entries updates : List Entry) → is_ascending entries ≡ true → is_ascending (set_onto entries updates) ≡ true
onto_ascending entries [] up = up
onto_ascending entries (e ∷ updates) up = onto_ascending (set_entry e entries) updates (set_ascending e entries up)

pub all_ascending : (updates : List Entry) → is_ascending (set_all updates) ≡ true
all_ascending updates = onto_ascending [] updates refl

onto_among : (entries updates : List Entry) (d : Entry) → Among d (set_onto entries updates) → Among d (updates ++ entries)
onto_among entries [] d among = among
onto_among entries (e ∷ updates) d among = go updates (onto_among (set_entry e entries) updates d among)
  where
    go : (more : List Entry) → Among d (more ++ set_entry e entries) → Among d (e ∷ (more ++ entries))
    go [] there = set_among e entries d there
    go (f ∷ more) (inl here) = inr (inl here)
    go (f ∷ more) (inr there) = elim (go more there) [ inl same ↦ inl same | inr other ↦ inr (inr other) ]

-- what is left was among the updates
pub all_among : (updates : List Entry) (d : Entry) → Among d (set_all updates) → Among d (updates ++ [])
all_among updates d among = onto_among [] updates d among

either : (o : Option Entry) (b : Bool) (e : Entry) (p : Option Entry) → option_or o (cond b (Some e) p) ≡ option_or (option_or o (cond b (Some e) None)) p
either None true e p = refl
either None false e p = refl
either (Some x) b e p = refl

onto_found : (key : List ℕ) (u : ℕ) (entries updates : List Entry) → find (is_at key u) (set_onto entries updates) ≡ option_or (find (is_at key u) (reverse updates)) (find (is_at key u) entries)
onto_found key u entries [] = refl
onto_found key u entries (e ∷ updates) =
    onto_found key u (set_entry e entries) updates
    ∙ ap (option_or (find (is_at key u) (reverse updates))) (find_set key u e entries)
    ∙ either (find (is_at key u) (reverse updates)) (is_at key u e) e (find (is_at key u) entries)
    ∙ sym (ap (λ (o : Option Entry). option_or o (find (is_at key u) entries))
    (ap (find (is_at key u)) (reverse-append (e ∷ []) updates) ∙ find-append (is_at key u) (reverse updates) (e ∷ [])))

-- each key and version is found as in the updates, the last of them first
pub all_found : (key : List ℕ) (u : ℕ) (updates : List Entry) → find (is_at key u) (set_all updates) ≡ find (is_at key u) (reverse updates)
all_found key u updates = onto_found key u [] updates ∙ or_nothing (find (is_at key u) (reverse updates))
  where
    or_nothing : (o : Option Entry) → option_or o None ≡ o
    or_nothing None = refl
    or_nothing (Some x) = refl

pub all_latest : (key : List ℕ) (u : ℕ) (updates : List Entry) → find (is_at key u) (set_all updates) ≡ find (is_at key u) (latest updates)
all_latest key u updates = all_found key u updates ∙ sym (find-latest key u updates)

-- a key is read in what is left as in the latest updates
pub all_lives : (parents : Parents) → IsTree parents → (updates : List Entry) (v : ℕ) (key : List ℕ) → live_of parents (set_all updates) v key ≡ live_of parents (latest updates) v key
all_lives parents tree updates v key =
    deciding_live parents tree (set_all updates) key v (ascending_single (set_all updates) (all_ascending updates))
    ∙ first_same (λ u. find (is_at key u) (set_all updates)) (λ u. find (is_at key u) (latest updates)) (path parents v) (λ u among. all_latest key u updates)
    ∙ sym (deciding_live parents tree (latest updates) key v (latest_single updates))
