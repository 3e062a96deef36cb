-- The entry that decides a key at a version, and the entries live there.
use Rattle.std.proofs.Common.{◌≡◌, ◌<◌, ◌≤◌, ℕ, Bool, true, false, cond, ltb, ◌&&◌, not, inl, inr, List, [], ◌∷◌, length, filter, Some, None, refl, sym, ap, ◌∙◌, subst, arith, true≢false}
use Rattle.std.specs.List.{list_any, find}
use Rattle.std.specs.Option.{option_or}
use Rattle.std.proofs.lemmas.Bool.{ltb-true, lt-ltb, and_parts, and_from, cases_order, not-true, not_from_false, false_from_ne_true}
use Rattle.strat_base.specs.Tree.{Parents, parent_of, path, is_ancestor, IsTree}
use Rattle.strat_base.specs.Entries.{Entry, is_of, is_at, is_single}
use Rattle.def_state.specs.Live.{is_hidden_by, is_live, live, first_some, deciding}
use Rattle.strat_base.proofs.ListFacts.{filter_among, among_filter, Among, any_among, any_from, find_some, find_none}
use Rattle.strat_base.proofs.EntryLemmas.{same_bytes, is_of_key, is_at_key, is_at_version, at_key_version, single_same}
use Rattle.strat_base.proofs.ResultFacts.{option_cases}
use Rattle.strat_base.proofs.TreeLemmas.{path_root, path_up, along_path, on_root, on_path, from_path, self_on_path, path_le, ancestor_among, among_ancestor}

-- e decides a key at v: it stands on the path, and no entry of the key nearer to v
pub record Decides (parents : Parents) (entries : List Entry) (key : List ℕ) (v : ℕ) (e : Entry) : Type 0 where
  pub among : Among e entries
  pub of_key : e.key ≡ key
  pub on_path : Among e.version (path parents v)
  pub first : find (is_at key e.version) entries ≡ Some e
  pub nearest : (w : ℕ) → Among w (path parents v) → e.version < w → find (is_at key w) entries ≡ None

module _ (parents : Parents) (tree : IsTree parents) (entries : List Entry) (key : List ℕ) where
  pub deciding_root : (v : ℕ) → parent_of parents v ≡ None → deciding parents entries key v ≡ option_or (find (is_at key v) entries) None
  deciding_root v none = ap (λ (x : List ℕ). first_some (λ u. find (is_at key u) entries) x) (path_root parents tree v none)

  pub deciding_up : (v p : ℕ) → parent_of parents v ≡ Some p → deciding parents entries key v ≡ option_or (find (is_at key v) entries) (deciding parents entries key p)
  deciding_up v p some = ap (λ (x : List ℕ). first_some (λ u. find (is_at key u) entries) x) (path_up parents tree v p some)

  decides_here : (v : ℕ) (e : Entry) → find (is_at key v) entries ≡ Some e → Decides parents entries key v e
  decides_here v e here =
      let found = find_some (is_at key v) entries e here in
      let same : e.version ≡ v = is_at_version key v e found.1 in
      record {
        among = found.0;
        of_key = is_at_key key v e found.1;
        on_path = subst (λ (x : ℕ). Among x (path parents v)) (sym same) (self_on_path parents tree v);
        first = subst (λ (x : ℕ). find (is_at key x) entries ≡ Some e) (sym same) here;
        nearest = λ w among above. let le : w ≤ v = path_le parents tree w v among in absurd (omega (arith, same, above, le));
      }

  pub deciding_some : (v : ℕ) (e : Entry) → deciding parents entries key v ≡ Some e → Decides parents entries key v e
  deciding_some v e = along_path parents tree (λ v. deciding parents entries key v ≡ Some e → Decides parents entries key v e)
      (λ v none is.
      elim (option_cases (find (is_at key v) entries)) [
        | inl nothing ↦ let at = sym (deciding_root v none) ∙ is in absurd (cc)
        | inr found ↦ let at = sym (deciding_root v none) ∙ is in let same : found.0 ≡ e = cc in decides_here v e (found.1 ∙ ap (λ (x : Entry). Some x) same)
      ])
      (λ v p some ih is.
      elim (option_cases (find (is_at key v) entries)) [
        | inl nothing ↦
            let at = sym (deciding_up v p some) ∙ is in
            let above : deciding parents entries key p ≡ Some e = cc in
            let there = ih above in
            record {
              among = there.among;
              of_key = there.of_key;
              on_path = from_path parents tree e.version v p some (inr there.on_path);
              first = there.first;
              nearest = λ w among lt.
                  elim (on_path parents tree w v p some among) [
                    | inl here ↦ ap (λ (x : ℕ). find (is_at key x) entries) here ∙ nothing
                    | inr deeper ↦ there.nearest w deeper lt
                  ];
            }
        | inr found ↦ let at = sym (deciding_up v p some) ∙ is in let same : found.0 ≡ e = cc in decides_here v e (found.1 ∙ ap (λ (x : Entry). Some x) same)
      ]) v

  pub deciding_none : (v w : ℕ) → deciding parents entries key v ≡ None → Among w (path parents v) → find (is_at key w) entries ≡ None
  deciding_none v w is among = along_path parents tree (λ v. deciding parents entries key v ≡ None → Among w (path parents v) → find (is_at key w) entries ≡ None)
      (λ v none nothing a.
      let here : w ≡ v = on_root parents tree w v none a in
      let at = sym (deciding_root v none) ∙ nothing in
      elim (option_cases (find (is_at key v) entries)) [
        | inl no_entry ↦ ap (λ (x : ℕ). find (is_at key x) entries) here ∙ no_entry
        | inr found ↦ absurd (cc)
      ])
      (λ v p some ih nothing a.
      let at = sym (deciding_up v p some) ∙ nothing in
      elim (option_cases (find (is_at key v) entries)) [
        | inl no_entry ↦
            let above : deciding parents entries key p ≡ None = cc in
            elim (on_path parents tree w v p some a) [
              | inl here ↦ ap (λ (x : ℕ). find (is_at key x) entries) here ∙ no_entry
              | inr there ↦ ih above there
            ]
        | inr found ↦ absurd (cc)
      ]) v is among

  -- an entry of the key on the path decides, or one nearer does
  pub deciding_found : (v : ℕ) (e : Entry) → Among e entries → e.key ≡ key → Among e.version (path parents v) → (d : Entry) × (deciding parents entries key v ≡ Some d)
  deciding_found v e among of_key on =
      elim (option_cases (deciding parents entries key v)) [
        | inl nothing ↦
            let none = deciding_none v e.version nothing on in
            absurd (true≢false (sym (at_key_version key e.version e of_key refl) ∙ find_none (is_at key e.version) entries e none among))
        | inr found ↦ found
      ]

  -- what decides is live
  pub decides_live : (v : ℕ) (e : Entry) → Decides parents entries key v e → is_live parents entries v e ≡ true
  decides_live v e d =
      and_from (is_ancestor parents e.version v) (not (list_any (is_hidden_by parents v e) entries))
      (among_ancestor parents tree e.version v d.on_path)
      (not_from_false (list_any (is_hidden_by parents v e) entries) (false_from_ne_true (list_any (is_hidden_by parents v e) entries) (λ hidden.
      let found = any_among (is_hidden_by parents v e) entries hidden in
      let other = found.0 in
      let outer = and_parts (is_of e.key other && ltb e.version other.version) (is_ancestor parents other.version v) found.2 in
      let inner = and_parts (is_of e.key other) (ltb e.version other.version) outer.0 in
      let k : other.key ≡ key = is_of_key e.key other inner.0 ∙ d.of_key in
      let on = ancestor_among parents tree other.version v outer.1 in
      let none = d.nearest other.version on (ltb-true e.version other.version inner.1) in
      true≢false (sym (at_key_version key other.version other k refl) ∙ find_none (is_at key other.version) entries other none found.1))))

-- an entry that is live stands on the path, and none of its key is nearer
module _ (parents : Parents) (tree : IsTree parents) (entries : List Entry) (v : ℕ) where
  pub live_on_path : (e : Entry) → is_live parents entries v e ≡ true → Among e.version (path parents v)
  live_on_path e lives = ancestor_among parents tree e.version v (and_parts (is_ancestor parents e.version v) (not (list_any (is_hidden_by parents v e) entries)) lives).0

  pub live_nearest : (e other : Entry) → is_live parents entries v e ≡ true → Among other entries → other.key ≡ e.key → Among other.version (path parents v) → e.version < other.version → ⊥
  live_nearest e other lives among same on lt =
      let hidden = not-true (list_any (is_hidden_by parents v e) entries) (and_parts (is_ancestor parents e.version v) (not (list_any (is_hidden_by parents v e) entries)) lives).1 in
      let hides = and_from (is_of e.key other && ltb e.version other.version) (is_ancestor parents other.version v)
      (and_from (is_of e.key other) (ltb e.version other.version) (same_bytes other.key e.key same) (lt-ltb e.version other.version lt))
      (among_ancestor parents tree other.version v on) in
      true≢false (sym (any_from (is_hidden_by parents v e) other entries among hides) ∙ hidden)

  -- two live entries of one key have one version
  pub live_version : (e d : Entry) → Among e entries → Among d entries → is_live parents entries v e ≡ true → is_live parents entries v d ≡ true → e.key ≡ d.key → e.version ≡ d.version
  live_version e d a b one other same =
      elim (cases_order e.version d.version) [
        | inl equal ↦ equal
        | inr apart ↦
            elim apart [
              | inl lt ↦ absurd (live_nearest e d one b (sym same) (live_on_path d other) lt)
              | inr gt ↦ absurd (live_nearest d e other a same (live_on_path e one) gt)
            ]
      ]

  pub live_one : is_single entries ≡ true → (e d : Entry) → Among e entries → Among d entries → is_live parents entries v e ≡ true → is_live parents entries v d ≡ true → e.key ≡ d.key → e ≡ d
  live_one single e d a b one other same =
      single_same entries e d single a b (at_key_version e.key e.version d (sym same) (sym (live_version e d a b one other same)))

-- where at most one element passes a test, at most one is kept
few : {X : Type 0} (p : X → Bool) (xs : List X) (x : X) → ((y : X) → Among y xs → p y ≡ true → ⊥) → filter p xs ≡ []
few p [] x none = refl
few p (y ∷ ys) x none =
    elim (p y) as (λ b. p y ≡ b → cond b (y ∷ filter p ys) (filter p ys) ≡ []) [
      | true ↦ λ is. absurd (none y (inl refl) is)
      | false ↦ λ is. few p ys x (λ z among. none z (inr among))
    ] refl

-- the entries of a set with one per key and version that pass a test, where those that pass share key and version
single_few : (p : Entry → Bool) (entries : List Entry) → is_single entries ≡ true → ((e d : Entry) → Among e entries → Among d entries → p e ≡ true → p d ≡ true → is_at e.key e.version d ≡ true) → length (filter p entries) ≤ 1
single_few p [] single alike = omega arith
single_few p (e ∷ entries) single alike =
    let parts = and_parts (not (list_any (is_at e.key e.version) entries)) (is_single entries) single in
    elim (p e) as (λ b. p e ≡ b → length (cond b (e ∷ filter p entries) (filter p entries)) ≤ 1) [
      | true ↦ λ is.
          let nothing : filter p entries ≡ [] = few p entries e (λ d among passes.
          let at = alike e d (inl refl) (inr among) is passes in
          true≢false (sym (any_from (is_at e.key e.version) d entries among at) ∙ not-true (list_any (is_at e.key e.version) entries) parts.0)) in
          omega (arith, ap length nothing)
      | false ↦ λ is. single_few p entries parts.1 (λ d f a b x y. alike d f (inr a) (inr b) x y)
    ] refl

pub single_filter : (p : Entry → Bool) (entries : List Entry) → is_single entries ≡ true → is_single (filter p entries) ≡ true
single_filter p [] single = refl
single_filter p (e ∷ entries) single =
    let parts = and_parts (not (list_any (is_at e.key e.version) entries)) (is_single entries) single in
    elim (p e) as (λ b. p e ≡ b → is_single (cond b (e ∷ filter p entries) (filter p entries)) ≡ true) [
      | true ↦ λ is.
          and_from (not (list_any (is_at e.key e.version) (filter p entries))) (is_single (filter p entries))
          (not_from_false (list_any (is_at e.key e.version) (filter p entries)) (false_from_ne_true (list_any (is_at e.key e.version) (filter p entries)) (λ any.
          let found = any_among (is_at e.key e.version) (filter p entries) any in
          let kept = filter_among p entries found.0 found.1 in
          true≢false (sym (any_from (is_at e.key e.version) found.0 entries kept.0 found.2) ∙ not-true (list_any (is_at e.key e.version) entries) parts.0))))
          (single_filter p entries parts.1)
      | false ↦ λ is. single_filter p entries parts.1
    ] refl

module _ (parents : Parents) (tree : IsTree parents) (entries : List Entry) (key : List ℕ) where
  pub live_few : (v : ℕ) → is_single entries ≡ true → length (filter (is_of key) (live parents entries v)) ≤ 1
  live_few v single =
      single_few (is_of key) (live parents entries v) (single_filter (is_live parents entries v) entries single) (λ e d a b x y.
      let first = filter_among (is_live parents entries v) entries e a in
      let second = filter_among (is_live parents entries v) entries d b in
      let same : e.key ≡ d.key = is_of_key key e x ∙ sym (is_of_key key d y) in
      at_key_version e.key e.version d (sym same) (sym (live_version parents tree entries v e d first.0 second.0 first.1 second.1 same)))

  pub live_at_child : (v c : ℕ) → parent_of parents c ≡ Some v → list_any (is_of key) (live parents entries v) ≡ true → list_any (is_of key) (live parents entries c) ≡ true
  live_at_child v c child some =
      let found = any_among (is_of key) (live parents entries v) some in
      let e = found.0 in
      let lives = filter_among (is_live parents entries v) entries e found.1 in
      let on = live_on_path parents tree entries v e lives.1 in
      let deeper = from_path parents tree e.version c v child (inr on) in
      let d = deciding_found parents tree entries key c e lives.0 (is_of_key key e found.2) deeper in
      let decides = deciding_some parents tree entries key c d.0 d.1 in
      any_from (is_of key) d.0 (live parents entries c)
      (among_filter (is_live parents entries c) entries d.0 decides.among (decides_live parents tree entries key c d.0 decides))
      (same_bytes d.0.key key decides.of_key)

  -- what decides a key is its live entry
  pub deciding_live : (v : ℕ) → is_single entries ≡ true → find (is_of key) (live parents entries v) ≡ deciding parents entries key v
  deciding_live v single =
      elim (option_cases (find (is_of key) (live parents entries v))) [
        | inl none ↦
            elim (option_cases (deciding parents entries key v)) [
              | inl nothing ↦ none ∙ sym nothing
              | inr some ↦
                  let decides = deciding_some parents tree entries key v some.0 some.1 in
                  let among = among_filter (is_live parents entries v) entries some.0 decides.among (decides_live parents tree entries key v some.0 decides) in
                  absurd (true≢false (sym (same_bytes some.0.key key decides.of_key) ∙ find_none (is_of key) (live parents entries v) some.0 none among))
            ]
        | inr found ↦
            let e = found.0 in
            let at = find_some (is_of key) (live parents entries v) e found.1 in
            let lives = filter_among (is_live parents entries v) entries e at.0 in
            let k : e.key ≡ key = is_of_key key e at.1 in
            let d = deciding_found parents tree entries key v e lives.0 k (live_on_path parents tree entries v e lives.1) in
            let decides = deciding_some parents tree entries key v d.0 d.1 in
            let same = live_one parents tree entries v single e d.0 lives.0 decides.among lives.1 (decides_live parents tree entries key v d.0 decides) (k ∙ sym decides.of_key) in
            found.1 ∙ ap (λ (x : Entry). Some x) same ∙ sym d.1
      ]
