-- What is live at a version stays live in a part of the entries, and at a parent.
use Rattle.std.proofs.Common.{◌≡◌, ◌<◌, ◌≤◌, ℕ, Bool, true, ltb, ◌&&◌, not, inl, inr, List, filter, Some, refl, sym, ◌∙◌, arith, true≢false}
use Rattle.std.specs.List.{list_any}
use Rattle.std.proofs.lemmas.Bool.{ltb-true, and_parts, and_from, cases_lt, not_from_false, false_from_ne_true}
use Rattle.strat_base.specs.Tree.{Parents, parent_of, path, is_ancestor, IsTree}
use Rattle.strat_base.specs.Entries.{Entry, is_of, is_at}
use Rattle.def_state.specs.Live.{is_hidden_by, is_live, live}
use Rattle.strat_base.proofs.ListFacts.{Among, any_among, find_none, among_filter, filter_among}
use Rattle.strat_base.proofs.EntryLemmas.{is_of_key, at_key_version}
use Rattle.strat_base.proofs.TreeLemmas.{from_path, self_on_path, path_le, ancestor_among, among_ancestor}
use Rattle.def_state.proofs.LiveLemmas.{deciding_found, deciding_some, decides_live, live_on_path, live_nearest}
use Rattle.def_split.proofs.ListLemmas.{bool_same, filter_both}

module _ (parents : Parents) (tree : IsTree parents) where
  -- an entry on the path is live where none of its key is nearer
  pub live_from : (entries : List Entry) (v : ℕ) (e : Entry) → Among e.version (path parents v)
      → ((d : Entry) → Among d entries → d.key ≡ e.key → Among d.version (path parents v) → e.version < d.version → ⊥) → is_live parents entries v e ≡ true
  live_from entries v e on none =
      and_from (is_ancestor parents e.version v) (not (list_any (is_hidden_by parents v e) entries))
      (among_ancestor parents tree e.version v on)
      (not_from_false (list_any (is_hidden_by parents v e) entries) (false_from_ne_true (list_any (is_hidden_by parents v e) entries) (λ hidden.
      let found = any_among (is_hidden_by parents v e) entries hidden in
      let d = found.0 in
      let outer = and_parts (is_of e.key d && ltb e.version d.version) (is_ancestor parents d.version v) found.2 in
      let inner = and_parts (is_of e.key d) (ltb e.version d.version) outer.0 in
      none d found.1 (is_of_key e.key d inner.0) (ancestor_among parents tree d.version v outer.1) (ltb-true e.version d.version inner.1))))

  -- what is live at a version is live at its parent, where its own version is the parent's or above
  pub live_up : (entries : List Entry) (v p : ℕ) (e : Entry) → parent_of parents v ≡ Some p → is_live parents entries v e ≡ true → Among e.version (path parents p) → is_live parents entries p e ≡ true
  live_up entries v p e some lives on =
      live_from entries p e on (λ d among same there lt. live_nearest parents tree entries v e d lives among same (from_path parents tree d.version v p some (inr there)) lt)

  pub live_self : (entries : List Entry) (e : Entry) → is_live parents entries e.version e ≡ true
  live_self entries e =
      live_from entries e.version e (self_on_path parents tree e.version) (λ d among same on lt. let le : d.version ≤ e.version = path_le parents tree d.version e.version on in absurd (omega (arith, le, lt)))

  pub live_fewer : (entries others : List Entry) (v : ℕ) (e : Entry) → ((d : Entry) → Among d others → Among d entries) → is_live parents entries v e ≡ true → is_live parents others v e ≡ true
  live_fewer entries others v e inside lives =
      live_from others v e (live_on_path parents tree entries v e lives) (λ d among same on lt. live_nearest parents tree entries v e d lives (inside d among) same on lt)

  -- the same entries in another order have the same ones live
  pub live_alike : (entries others : List Entry) (v : ℕ) (e : Entry) → ((d : Entry) → Among d others → Among d entries) → ((d : Entry) → Among d entries → Among d others)
      → is_live parents entries v e ≡ is_live parents others v e
  live_alike entries others v e inside outside =
      bool_same (is_live parents entries v e) (is_live parents others v e) (live_fewer entries others v e inside) (live_fewer others entries v e outside)

  -- entries of which those live at a version are kept have the same list live there
  pub live_kept : (keep : Entry → Bool) (entries : List Entry) (v : ℕ) → ((e : Entry) → Among e entries → is_live parents entries v e ≡ true → keep e ≡ true)
      → live parents (filter keep entries) v ≡ live parents entries v
  live_kept keep entries v kept =
      filter_both keep (is_live parents (filter keep entries) v) (is_live parents entries v) entries (λ e among.
      bool_same (keep e && is_live parents (filter keep entries) v e) (is_live parents entries v e)
      (λ both.
      let lives = (and_parts (keep e) (is_live parents (filter keep entries) v e) both).1 in
      live_from entries v e (live_on_path parents tree (filter keep entries) v e lives) (λ d there same on lt.
      let found = deciding_found parents tree entries e.key v d there same on in
      let decides = deciding_some parents tree entries e.key v found.0 found.1 in
      let stays = kept found.0 decides.among (decides_live parents tree entries e.key v found.0 decides) in
      elim (cases_lt found.0.version d.version) [
        | inl less ↦ absurd (true≢false (sym (at_key_version e.key d.version d same refl) ∙ find_none (is_at e.key d.version) entries d (decides.nearest d.version on less) there))
        | inr most ↦
            live_nearest parents tree (filter keep entries) v e found.0 lives (among_filter keep entries found.0 decides.among stays) decides.of_key decides.on_path (omega (arith, lt, most))
      ]))
      (λ lives.
      and_from (keep e) (is_live parents (filter keep entries) v e) (kept e among lives)
      (live_fewer entries (filter keep entries) v e (λ d there. (filter_among keep entries d there).0) lives)))
