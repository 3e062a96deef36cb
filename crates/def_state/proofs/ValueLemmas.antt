-- What a tree and a list of entries say of keys, and what one more entry or version does to it.
use Rattle.std.proofs.Common.{◌≡◌, ◌≢◌, ◌<◌, ℕ, Bool, true, false, cond, eqb, ◌&&◌, ◌||◌, ◌⊎◌, inl, inr, List, [], ◌∷◌, length, Option, Some, None, refl, sym, ap, ◌∙◌, subst, arith, true≢false}
use Rattle.std.specs.List.{list_any, find, fold, slice_get}
use Rattle.std.specs.Option.{option_or, option_and_then, option_map_or}
use Rattle.std.specs.Str.{bytes_eq}
use Rattle.std.specs.Map.{remove_entry}
use Rattle.std.specs.BTreeMap.{insert_entry}
use Rattle.std.specs.Ordering.{is_eq}
use Rattle.std.proofs.lemmas.Bool.{eq-eqb, cases_Bool, cases_eq, ne_eqb}
use Rattle.std.proofs.lemmas.Map.Text.{is_eq-slice_cmp}
use Rattle.strat_base.specs.Order.{key_cmp}
use Rattle.strat_base.specs.Tree.{Parents, parent_of, path, has_child, with_child, IsTree}
use Rattle.strat_base.specs.Entries.{Entry, is_of, is_at}
use Rattle.def_state.specs.Live.{first_some, deciding}
use Rattle.def_state.specs.Maps.{value_over, with_value, map_over}
use Rattle.strat_base.proofs.ListFacts.{Among, any_from, get_among}
use Rattle.strat_base.proofs.EntryLemmas.{bytes_same, same_bytes, at_key_version, is_at_version}
use Rattle.strat_base.proofs.ResultFacts.{option_cases}
use Rattle.strat_base.proofs.TreeLemmas.{tree_grown, path_kept, path_child}
use Rattle.def_state.proofs.LiveLemmas.{deciding_root, deciding_up, deciding_some}
use Rattle.def_state.proofs.ReadingLemmas.{find_below}
use Rattle.def_state.proofs.MapLemmas.{Pairs, InOrder, value_in, InOrder-insert, value_in-insert, InOrder-remove, value_in-remove, same_map}

bytes_eq_back : (x y : List ℕ) → bytes_eq x y ≡ bytes_eq y x
bytes_eq_back x y =
    elim (cases_Bool (bytes_eq y x)) [
      | inl yes' ↦ same_bytes x y (sym (bytes_same y x yes')) ∙ sym yes'
      | inr no' ↦
          elim (cases_Bool (bytes_eq x y)) [
            | inl some ↦ absurd (true≢false (sym (same_bytes y x (sym (bytes_same x y some))) ∙ no'))
            | inr none ↦ none ∙ sym no'
          ]
    ]

and_no : (b : Bool) → (b && false) ≡ false
and_no true = refl
and_no false = refl

-- a version with a child on record
pub child_recorded : (parents : Parents) (c v : ℕ) → parent_of parents c ≡ Some v → has_child parents v ≡ true
child_recorded parents c v is = go (slice_get parents c) refl is
  where
    go : (o : Option (Option ℕ)) → slice_get parents c ≡ o → option_and_then (λ parent. parent) o ≡ Some v → has_child parents v ≡ true
    go None at e = absurd (cc)
    go (Some parent) at e = any_from (λ q. option_map_or (λ p. eqb p v) q false) parent parents (get_among parents c parent at) (ap (λ (q : Option ℕ). option_map_or (λ p. eqb p v) q false) e ∙ eq-eqb v v refl)

pub first_same : (f g : ℕ → Option Entry) (us : List ℕ) → ((u : ℕ) → Among u us → f u ≡ g u) → first_some f us ≡ first_some g us
first_same f g [] each = refl
first_same f g (u ∷ us) each = λ i. option_or (each u (inl refl) i) (first_same f g us (λ w among. each w (inr among)) i)

-- the map of a version has the values that decide
module _ (parents : Parents) (entries : List Entry) (v : ℕ) where
  with_same : (pairs : Pairs) (key q : List ℕ) → bytes_eq key q ≡ true → (value_in q pairs ≡ None) ⊎ (value_in q pairs ≡ value_over parents entries v q)
      → value_in q (with_value parents entries v pairs key) ≡ value_over parents entries v q
  with_same pairs key q same before =
      let k : key ≡ q = bytes_same key q same in
      elim (option_cases (value_over parents entries v key)) [
        | inl none ↦
            let none' : value_over parents entries v q ≡ None = ap (value_over parents entries v) (sym k) ∙ none in
            ap (λ (o : Option (List ℕ)). value_in q (option_map_or (λ value. insert_entry key_cmp pairs key value) o pairs)) none
            ∙ elim before [ inl nothing ↦ nothing ∙ sym none' | inr already ↦ already ]
        | inr some ↦
            ap (λ (o : Option (List ℕ)). value_in q (option_map_or (λ value. insert_entry key_cmp pairs key value) o pairs)) some.1
            ∙ value_in-insert pairs key some.0 q
            ∙ ap (λ (b : Bool). cond b (Some some.0) (value_in q pairs)) (same_bytes q key (sym k))
            ∙ sym some.1 ∙ ap (value_over parents entries v) k
      ]

  with_other : (pairs : Pairs) (key q : List ℕ) → bytes_eq key q ≡ false → value_in q (with_value parents entries v pairs key) ≡ value_in q pairs
  with_other pairs key q other =
      elim (option_cases (value_over parents entries v key)) [
        | inl none ↦ ap (λ (o : Option (List ℕ)). value_in q (option_map_or (λ value. insert_entry key_cmp pairs key value) o pairs)) none
        | inr some ↦
            ap (λ (o : Option (List ℕ)). value_in q (option_map_or (λ value. insert_entry key_cmp pairs key value) o pairs)) some.1
            ∙ value_in-insert pairs key some.0 q
            ∙ ap (λ (b : Bool). cond b (Some some.0) (value_in q pairs)) (bytes_eq_back q key ∙ other)
      ]

  fold_value : (es : List Entry) (pairs : Pairs) (q : List ℕ) → (value_in q pairs ≡ None) ⊎ (value_in q pairs ≡ value_over parents entries v q)
      → value_in q (fold (λ ps e. with_value parents entries v ps e.key) pairs es) ≡ cond (list_any (is_of q) es) (value_over parents entries v q) (value_in q pairs)
  fold_value [] pairs q before = refl
  fold_value (e ∷ es) pairs q before =
      elim (bytes_eq e.key q) as (λ b. bytes_eq e.key q ≡ b → value_in q (fold (λ ps d. with_value parents entries v ps d.key) (with_value parents entries v pairs e.key) es) ≡ cond (b || list_any (is_of q) es) (value_over parents entries v q) (value_in q pairs)) [
        | true ↦ λ same.
            let now = with_same pairs e.key q same before in
            fold_value es (with_value parents entries v pairs e.key) q (inr now) ∙ both (list_any (is_of q) es) (value_over parents entries v q) (value_in q (with_value parents entries v pairs e.key)) now
        | false ↦ λ other.
            let now = with_other pairs e.key q other in
            fold_value es (with_value parents entries v pairs e.key) q (elim before [ inl none ↦ inl (now ∙ none) | inr already ↦ inr (now ∙ already) ])
            ∙ ap (λ (o : Option (List ℕ)). cond (list_any (is_of q) es) (value_over parents entries v q) o) now
      ] refl
    where
      both : (b : Bool) (x y : Option (List ℕ)) → y ≡ x → cond b x y ≡ x
      both true x y e = refl
      both false x y e = e

  fold_order : (es : List Entry) (pairs : Pairs) → InOrder pairs → InOrder (fold (λ ps e. with_value parents entries v ps e.key) pairs es)
  fold_order [] pairs h = h
  fold_order (e ∷ es) pairs h = fold_order es (with_value parents entries v pairs e.key) (with_order (value_over parents entries v e.key))
    where
      with_order : (o : Option (List ℕ)) → InOrder (option_map_or (λ value. insert_entry key_cmp pairs e.key value) o pairs)
      with_order None = h
      with_order (Some value) = InOrder-insert pairs e.key value h

  pub map_order : InOrder (map_over parents entries v)
  map_order = fold_order entries [] tt

  pub map_value : IsTree parents → (q : List ℕ) → value_in q (map_over parents entries v) ≡ value_over parents entries v q
  map_value tree q =
      fold_value entries [] q (inl refl)
      ∙ elim (list_any (is_of q) entries) as (λ b. list_any (is_of q) entries ≡ b → cond b (value_over parents entries v q) None ≡ value_over parents entries v q) [
        | true ↦ λ some. refl
        | false ↦ λ none.
            elim (option_cases (deciding parents entries q v)) [
              | inl nothing ↦ sym (ap (λ (o : Option Entry). option_and_then (λ e. e.value) o) nothing)
              | inr d ↦
                  let decides = deciding_some parents tree entries q v d.0 d.1 in
                  absurd (true≢false (sym (any_from (is_of q) d.0 entries decides.among (same_bytes d.0.key q decides.of_key)) ∙ none))
            ]
      ] refl

-- entries of two trees that say the same of every key at two versions give the same map there
pub maps_same : (old new : Parents) → IsTree old → IsTree new → (entries others : List Entry) (v w : ℕ)
    → ((q : List ℕ) → value_over new others w q ≡ value_over old entries v q) → map_over new others w ≡ map_over old entries v
maps_same old new old_tree new_tree entries others v w same =
    same_map (map_over new others w) (map_over old entries v) (map_order new others w) (map_order old entries v) (λ q.
    map_value new others w new_tree q ∙ same q ∙ sym (map_value old entries v old_tree q))

-- lists in which each key and version is found alike say the same
pub value_found : (parents : Parents) (entries others : List Entry) → ((key : List ℕ) (u : ℕ) → find (is_at key u) others ≡ find (is_at key u) entries)
    → (v : ℕ) (key : List ℕ) → value_over parents others v key ≡ value_over parents entries v key
value_found parents entries others found v key =
    ap (λ (o : Option Entry). option_and_then (λ e. e.value) o)
    (first_same (λ u. find (is_at key u) others) (λ u. find (is_at key u) entries) (path parents v) (λ u among. found key u))

-- one more entry in front, at a version without a child
module _ (parents : Parents) (tree : IsTree parents) (e : Entry) (entries : List Entry) (key : List ℕ) where
  at_here : (u : ℕ) → is_at key u e ≡ true → find (is_at key u) (e ∷ entries) ≡ Some e
  at_here u is = ap (λ (b : Bool). cond b (Some e) (find (is_at key u) entries)) is

  at_other : (u : ℕ) → is_at key u e ≡ false → find (is_at key u) (e ∷ entries) ≡ find (is_at key u) entries
  at_other u is = ap (λ (b : Bool). cond b (Some e) (find (is_at key u) entries)) is

  decides_its_version : e.key ≡ key → deciding parents (e ∷ entries) key e.version ≡ Some e
  decides_its_version k =
      let here = at_here e.version (at_key_version key e.version e k refl) in
      elim (option_cases (parent_of parents e.version)) [
        | inl none ↦ deciding_root parents tree (e ∷ entries) key e.version none ∙ ap (λ (o : Option Entry). option_or o None) here
        | inr some ↦ deciding_up parents tree (e ∷ entries) key e.version some.0 some.1 ∙ ap (λ (o : Option Entry). option_or o (deciding parents (e ∷ entries) key some.0)) here
      ]

  decides_its_key : (u : ℕ) → bytes_eq e.key key ≡ false → deciding parents (e ∷ entries) key u ≡ deciding parents entries key u
  decides_its_key u other =
      first_same (λ w. find (is_at key w) (e ∷ entries)) (λ w. find (is_at key w) entries) (path parents u)
      (λ w among. at_other w (ap (λ (b : Bool). b && eqb e.version w) other))

  decides_no_other : (u : ℕ) → (Among e.version (path parents u) → u ≡ e.version) → u ≢ e.version → deciding parents (e ∷ entries) key u ≡ deciding parents entries key u
  decides_no_other u leaf apart =
      first_same (λ w. find (is_at key w) (e ∷ entries)) (λ w. find (is_at key w) entries) (path parents u)
      (λ w among.
      elim (cases_Bool (is_at key w e)) [
        | inr no' ↦ at_other w no'
        | inl yes' ↦
            let same : e.version ≡ w = is_at_version key w e yes' in
            absurd (apart (leaf (subst (λ (x : ℕ). Among x (path parents u)) (sym same) among)))
      ])

  -- the key has what the entry says at its version, and every other value stays
  pub value_pushed : (u : ℕ) → (Among e.version (path parents u) → u ≡ e.version) → value_over parents (e ∷ entries) u key ≡ cond (eqb u e.version && bytes_eq e.key key) e.value (value_over parents entries u key)
  value_pushed u leaf =
      let value : Option Entry → Option (List ℕ) = λ o. option_and_then (λ d. d.value) o in
      elim (bytes_eq e.key key) as (λ b. bytes_eq e.key key ≡ b → value (deciding parents (e ∷ entries) key u) ≡ cond (eqb u e.version && b) e.value (value_over parents entries u key)) [
        | false ↦ λ other. ap value (decides_its_key u other) ∙ sym (ap (λ (b : Bool). cond b e.value (value_over parents entries u key)) (and_no (eqb u e.version)))
        | true ↦ λ same.
            elim (cases_eq u e.version) [
              | inl here ↦
                  ap (λ (x : ℕ). value (deciding parents (e ∷ entries) key x)) here
                  ∙ ap value (decides_its_version (bytes_same e.key key same))
                  ∙ sym (ap (λ (b : Bool). cond (b && true) e.value (value_over parents entries u key)) (eq-eqb u e.version here))
              | inr apart ↦
                  ap value (decides_no_other u leaf apart)
                  ∙ sym (ap (λ (b : Bool). cond (b && true) e.value (value_over parents entries u key)) (ne_eqb u e.version apart))
            ]
      ] refl

module _ (parents : Parents) (tree : IsTree parents) (entries : List Entry) (v : ℕ) (key : List ℕ) (u : ℕ) (leaf : Among v (path parents u) → u ≡ v) where
  -- a value sets its key in the map of its version, and every other map stays
  pub map_put : (value : List ℕ) → map_over parents (record { key = key; version = v; value = Some value } ∷ entries) u
      ≡ cond (eqb u v) (insert_entry key_cmp (map_over parents entries u) key value) (map_over parents entries u)
  map_put value =
      let before : Pairs = map_over parents entries u in
      let e : Entry = record { key = key; version = v; value = Some value } in
      let after : Pairs = map_over parents (e ∷ entries) u in
      let read : (q : List ℕ) → value_in q after ≡ cond (eqb u v && bytes_eq key q) (Some value) (value_over parents entries u q) =
      λ q. map_value parents (e ∷ entries) u tree q ∙ value_pushed parents tree e entries q u leaf in
      elim (eqb u v) as (λ b. eqb u v ≡ b → after ≡ cond b (insert_entry key_cmp before key value) before) [
        | true ↦ λ here.
            same_map after (insert_entry key_cmp before key value) (map_order parents (e ∷ entries) u) (InOrder-insert before key value (map_order parents entries u)) (λ q.
            read q
            ∙ ap (λ (b : Bool). cond (b && bytes_eq key q) (Some value) (value_over parents entries u q)) here
            ∙ ap (λ (b : Bool). cond b (Some value) (value_over parents entries u q)) (bytes_eq_back key q)
            ∙ ap (λ (o : Option (List ℕ)). cond (bytes_eq q key) (Some value) o) (sym (map_value parents entries u tree q))
            ∙ sym (value_in-insert before key value q))
        | false ↦ λ there.
            same_map after before (map_order parents (e ∷ entries) u) (map_order parents entries u) (λ q.
            read q ∙ ap (λ (b : Bool). cond (b && bytes_eq key q) (Some value) (value_over parents entries u q)) there ∙ sym (map_value parents entries u tree q))
      ] refl

  -- a mark that a key is gone removes it from the map of its version, and every other map stays
  pub map_delete : map_over parents (record { key = key; version = v; value = None } ∷ entries) u
      ≡ cond (eqb u v) (remove_entry (λ k. is_eq (key_cmp key k)) (map_over parents entries u)) (map_over parents entries u)
  map_delete =
      let before : Pairs = map_over parents entries u in
      let e : Entry = record { key = key; version = v; value = None } in
      let after : Pairs = map_over parents (e ∷ entries) u in
      let read : (q : List ℕ) → value_in q after ≡ cond (eqb u v && bytes_eq key q) None (value_over parents entries u q) =
      λ q. map_value parents (e ∷ entries) u tree q ∙ value_pushed parents tree e entries q u leaf in
      elim (eqb u v) as (λ b. eqb u v ≡ b → after ≡ cond b (remove_entry (λ k. is_eq (key_cmp key k)) before) before) [
        | true ↦ λ here.
            same_map after (remove_entry (λ k. is_eq (key_cmp key k)) before) (map_order parents (e ∷ entries) u) (InOrder-remove before key (map_order parents entries u)) (λ q.
            read q
            ∙ ap (λ (b : Bool). cond (b && bytes_eq key q) None (value_over parents entries u q)) here
            ∙ ap (λ (b : Bool). cond b None (value_over parents entries u q)) (bytes_eq_back key q ∙ sym (is_eq-slice_cmp q key))
            ∙ ap (λ (o : Option (List ℕ)). cond (is_eq (key_cmp q key)) None o) (sym (map_value parents entries u tree q))
            ∙ sym (value_in-remove before key q (map_order parents entries u)))
        | false ↦ λ there.
            same_map after before (map_order parents (e ∷ entries) u) (map_order parents entries u) (λ q.
            read q ∙ ap (λ (b : Bool). cond (b && bytes_eq key q) None (value_over parents entries u q)) there ∙ sym (map_value parents entries u tree q))
      ] refl

-- one more version, of which no entry speaks
module _ (parents : Parents) (tree : IsTree parents) (p : ℕ) (parent : p < length parents) (entries : List Entry) where
  -- every older map stays
  pub map_kept : (u : ℕ) → u < length parents → map_over (with_child parents p) entries u ≡ map_over parents entries u
  map_kept u lt =
      maps_same parents (with_child parents p) tree (tree_grown parents tree p parent) entries entries u u
      (λ q. ap (λ (way : List ℕ). option_and_then (λ e. e.value) (first_some (λ w. find (is_at q w) entries) way)) (path_kept parents tree p parent u lt))

  -- the child has its parent's map
  pub map_child : ((e : Entry) → Among e entries → e.version < length parents) → map_over (with_child parents p) entries (length parents) ≡ map_over parents entries p
  map_child known =
      let n : ℕ = length parents in
      maps_same parents (with_child parents p) tree (tree_grown parents tree p parent) entries entries p n
      (λ q. ap (λ (way : List ℕ). option_and_then (λ e. e.value) (first_some (λ w. find (is_at q w) entries) way)) (path_child parents tree p parent)
      ∙ ap (λ (o : Option Entry). option_and_then (λ e. e.value) (option_or o (deciding parents entries q p)))
      (find_below parents tree q entries n n known (omega arith)))
