-- A journal's changes carried out on what is in memory where they go on behind a full region.
use Rattle.std.proofs.Common.{◌≡◌, ◌<◌, ◌≤◌, ◌+◌, ◌*◌, ◌-◌, ℕ, suc, true, false, Bool, cond, List, [], ◌∷◌, ◌++◌, length, map, take, drop, None, Ok, Err, refl, sym, ap, ◌∙◌, subst, arith}
use Rattle.std.specs.Prelude.{fold}
use Rattle.std.specs.List.{list_all}
use Rattle.std.proofs.lemmas.Bool.{and_from}
use Rattle.std.proofs.lemmas.List.{length-drop, length-map, length-take, map-append, take_all, take-append-drop}
use Rattle.std.proofs.lemmas.List.Folds.{list_all-append}
use Rattle.strat_base.specs.Change.{Change, is_lawful}
use Rattle.strat_base.specs.Marks.{Marks}
use Rattle.strat_base.specs.Tree.{Parents}
use Rattle.def_bytes.proofs.DamageLemmas.{put_first_ok}
use Rattle.def_bytes.specs.Damage.{Read, put_first}
use Rattle.def_bytes.specs.Manifest.{Manifest}
use Rattle.def_bytes.specs.Records.{Logged}
use Rattle.def_bytes.specs.SuperBlock.{Super}
use Rattle.def_recovery.specs.Opening.{accepted_in}
use Rattle.def_state.specs.Sound.{is_accepted}
use Rattle.def_state.specs.State.{marks_after, tree_after}
use Rattle.strat_journal.specs.Records.{logged_of}
use Rattle.strat_journal.specs.declared.journal.Logged.{Logged as Owned}
use Rattle.strat_memory.specs.Memory.{IsMemoryOf, Memory, memory_after, sealed_off}
use Rattle.strat_open.proofs.RecoverLemmas.{accepted_in_turn}
use Rattle.strat_open.proofs.RedoLemmas.{accepted_by, after_changes, after_limits, after_marks, after_parents, after_these, cursors_redone, memory_follows_all, sealed_of, sealed_redone}

none_before : (r : Read (List Change)) → after_these [] r ≡ r
none_before (Ok ys) = refl
none_before (Err b) = refl

first_before : (c : Change) (xs : List Change) (r : Read (List Change)) → put_first c (after_these xs r) ≡ after_these (c ∷ xs) r
first_before c xs (Ok ys) = refl
first_before c xs (Err b) = refl

put_first_err : (c : Change) (r : Read (List Change)) (b : ℕ) → put_first c r ≡ Err b → r ≡ Err b
put_first_err c (Ok xs) b e = absurd (cc)
put_first_err c (Err d) b e = e

-- what is accepted behind a change, memory accepts that made it
accepted_behind : (m : Memory) (c : Change) (logged : List Logged)
    → accepted_in m.changes_max m.versions_max (tree_after m.parents c) (marks_after m.marks c) (suc m.changes) logged ≡ accepted_by (memory_after m c) logged
accepted_behind m c logged =
    let limits = after_limits m c in
    let count : suc m.changes ≡ (memory_after m c).changes = omega (arith, after_changes m c) in
    λ i. accepted_in (sym limits.0 i) (sym limits.1 i) (sym (after_parents m c) i) (sym (after_marks m c) i) (count i) logged

-- records that are accepted in front of others
accepted_on : (xs ys : List Logged) (m : Memory) (js : List Change) → accepted_by m xs ≡ Ok js → accepted_by m (xs ++ ys) ≡ after_these js (accepted_by (fold memory_after m js) ys)
accepted_on [] ys m js e =
    let none : [] ≡ js = cc in
    subst (λ (zs : List Change). accepted_by m ys ≡ after_these zs (accepted_by (fold memory_after m zs) ys)) none (sym (none_before (accepted_by m ys)))
accepted_on (l ∷ xs) ys m js e = by_test (is_accepted m.changes_max m.versions_max m.parents m.marks m.changes l.change) refl (accepted_on xs ys) e
  where
    later : List Logged → Read (List Change)
    later zs = accepted_in m.changes_max m.versions_max (tree_after m.parents l.change) (marks_after m.marks l.change) (suc m.changes) zs

    by_test : (b : Bool) → is_accepted m.changes_max m.versions_max m.parents m.marks m.changes l.change ≡ b
        → ((n : Memory) (ks : List Change) → accepted_by n xs ≡ Ok ks → accepted_by n (xs ++ ys) ≡ after_these ks (accepted_by (fold memory_after n ks) ys))
        → cond b (put_first l.change (later xs)) (Err l.block) ≡ Ok js → cond b (put_first l.change (later (xs ++ ys))) (Err l.block) ≡ after_these js (accepted_by (fold memory_after m js) ys)
    by_test false is rest e = absurd (cc)
    by_test true is rest e =
        let parts = put_first_ok l.change (later xs) js e in
        let next : Memory = memory_after m l.change in
        ap (put_first l.change) (accepted_behind m l.change (xs ++ ys) ∙ rest next parts.0 (sym (accepted_behind m l.change xs) ∙ parts.1))
        ∙ first_before l.change parts.0 (accepted_by (fold memory_after next parts.0) ys)
        ∙ ap (λ (zs : List Change). after_these zs (accepted_by (fold memory_after m zs) ys)) parts.2

-- and one that is not
accepted_stops : (cm vm : ℕ) (parents : Parents) (marks : Marks) (n : ℕ) (xs ys : List Logged) (b : ℕ) → accepted_in cm vm parents marks n xs ≡ Err b → accepted_in cm vm parents marks n (xs ++ ys) ≡ Err b
accepted_stops cm vm parents marks n [] ys b e = absurd (cc)
accepted_stops cm vm parents marks n (l ∷ xs) ys b e =
    by_test (is_accepted cm vm parents marks n l.change) (accepted_stops cm vm (tree_after parents l.change) (marks_after marks l.change) (suc n) xs ys b) e
  where
    later : List Logged → Read (List Change)
    later zs = accepted_in cm vm (tree_after parents l.change) (marks_after marks l.change) (suc n) zs

    by_test : (t : Bool) → (later xs ≡ Err b → later (xs ++ ys) ≡ Err b) → cond t (put_first l.change (later xs)) (Err l.block) ≡ Err b
        → cond t (put_first l.change (later (xs ++ ys))) (Err l.block) ≡ Err b
    by_test false rest e = e
    by_test true rest e = ap (put_first l.change) (rest (put_first_err l.change (later xs) b e))

-- the changes of records as they were read
abbrev pub changes_read : List Owned → List Change
changes_read logged = map (λ (l : Owned). l.change) logged

-- a journal that was read, cut behind the full region
module _ (mem : ℕ) (logged : List Owned) where
  abbrev front : List Owned
  front = take mem logged

  abbrev behind : List Owned
  behind = take (length logged - mem) (drop mem logged)

  cut : front ++ behind ≡ logged
  cut = ap (λ (ls : List Owned). front ++ ls) (take_all (length logged - mem) (drop mem logged) (omega (arith, length-drop mem logged))) ∙ take-append-drop mem logged

  cut_records : map logged_of front ++ map logged_of behind ≡ map logged_of logged
  cut_records = sym (map-append logged_of front behind) ∙ ap (map logged_of) cut

  cut_changes : changes_read front ++ changes_read behind ≡ changes_read logged
  cut_changes = sym (map-append (λ (l : Owned). l.change) front behind) ∙ ap changes_read cut

  pub both_lawful : list_all is_lawful (changes_read front) ≡ true → list_all is_lawful (changes_read behind) ≡ true → list_all is_lawful (changes_read logged) ≡ true
  both_lawful one two =
      ap (list_all is_lawful) (sym cut_changes) ∙ list_all-append is_lawful (changes_read front) (changes_read behind)
      ∙ and_from (list_all is_lawful (changes_read front)) (list_all is_lawful (changes_read behind)) one two

  -- one of the full region is refused
  pub front_refused : (m : Memory) (b : ℕ) → accepted_by m (map logged_of front) ≡ Err b → accepted_by m (map logged_of logged) ≡ Err b
  front_refused m b e =
      sym (ap (accepted_by m) cut_records) ∙ accepted_stops m.changes_max m.versions_max m.parents m.marks m.changes (map logged_of front) (map logged_of behind) b e

  -- those of the full region were carried out, and level 0 was sealed
  module _ (m mid anew : Memory) (first : accepted_by m (map logged_of front) ≡ Ok (changes_read front)) (mid_is : mid ≡ fold memory_after m (changes_read front)) (anew_is : anew ≡ sealed_off mem mid) where
    same_accepts : accepted_by (fold memory_after m (changes_read front)) (map logged_of behind) ≡ accepted_by anew (map logged_of behind)
    same_accepts =
        ap (λ (x : Memory). accepted_by (sealed_off mem x) (map logged_of behind)) (sym mid_is) ∙ ap (λ (x : Memory). accepted_by x (map logged_of behind)) (sym anew_is)

    all_accepted : accepted_by m (map logged_of logged) ≡ after_these (changes_read front) (accepted_by anew (map logged_of behind))
    all_accepted =
        sym (ap (accepted_by m) cut_records) ∙ accepted_on (map logged_of front) (map logged_of behind) m (changes_read front) first
        ∙ ap (after_these (changes_read front)) same_accepts

    pub both_accepted : accepted_by anew (map logged_of behind) ≡ Ok (changes_read behind) → accepted_by m (map logged_of logged) ≡ Ok (changes_read logged)
    both_accepted second = all_accepted ∙ ap (after_these (changes_read front)) second ∙ ap (λ (js : List Change). Ok js) cut_changes

    pub behind_refused : (b : ℕ) → accepted_by anew (map logged_of behind) ≡ Err b → accepted_by m (map logged_of logged) ≡ Err b
    behind_refused b second = all_accepted ∙ ap (after_these (changes_read front)) second

    -- then so were those behind it
    module _ (now : Memory) (second : accepted_by anew (map logged_of behind) ≡ Ok (changes_read behind)) (now_is : now ≡ fold memory_after anew (changes_read behind)) where
      pub both_cursors : now.cursors ≡ m.cursors
      both_cursors =
          ap (λ (x : Memory). x.cursors) now_is ∙ cursors_redone (changes_read behind) anew ∙ ap (λ (x : Memory). x.cursors) anew_is
          ∙ ap (λ (x : Memory). x.cursors) mid_is ∙ cursors_redone (changes_read front) m

      pub both_held : mem < length logged → m.sealed ≡ None → (sb : Super) (manifest : Manifest) → sb.mem ≡ mem → IsMemoryOf (record { sb = sb; manifest = manifest; journal = [] }) m
          → IsMemoryOf (record { sb = sb; manifest = manifest; journal = changes_read logged }) now
      both_held long none sb manifest size of =
          let many : length (changes_read front) ≡ sb.mem = omega (arith, length-map front (λ (l : Owned). l.change), length-take mem logged, long, size) in
          let here : IsMemoryOf (record { sb = sb; manifest = manifest; journal = changes_read front }) (fold memory_after m (changes_read front)) =
          memory_follows_all sb manifest [] (changes_read front) m of
          (accepted_in_turn m.changes_max m.versions_max m.parents m.marks m.changes (map logged_of front) (changes_read front) first) (λ unsealed. omega (arith, many)) in
          let there : IsMemoryOf (record { sb = sb; manifest = manifest; journal = changes_read front }) (sealed_off sb.mem (fold memory_after m (changes_read front))) =
          sealed_of (record { sb = sb; manifest = manifest; journal = changes_read front }) (fold memory_after m (changes_read front)) here (sealed_redone (changes_read front) m ∙ none) many in
          let is : sealed_off sb.mem (fold memory_after m (changes_read front)) ≡ anew =
          ap (λ (n : ℕ). sealed_off n (fold memory_after m (changes_read front))) size ∙ ap (sealed_off mem) (sym mid_is) ∙ sym anew_is in
          let sealed : anew.sealed ≡ None → ⊥ = λ unsealed. (let e = sym (ap (λ (x : Memory). x.sealed) anew_is) ∙ unsealed in cc) in
          subst (λ (x : Memory). IsMemoryOf (record { sb = sb; manifest = manifest; journal = changes_read logged }) x) (sym now_is)
          (subst (λ (js : List Change). IsMemoryOf (record { sb = sb; manifest = manifest; journal = js }) (fold memory_after anew (changes_read behind))) cut_changes
          (memory_follows_all sb manifest (changes_read front) (changes_read behind) anew
          (subst (λ (x : Memory). IsMemoryOf (record { sb = sb; manifest = manifest; journal = changes_read front }) x) is there)
          (accepted_in_turn anew.changes_max anew.versions_max anew.parents anew.marks anew.changes (map logged_of behind) (changes_read behind) second)
          (λ unsealed. absurd (sealed unsealed))))
