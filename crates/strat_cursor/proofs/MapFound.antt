-- Look-ups find a map, whatever lists and arrays they go through.
use Rattle.std.proofs.Common.{◌≡◌, ℕ, Bool, true, false, cond, ◌||◌, inl, inr, List, [], ◌∷◌, ◌++◌, flat_map, map, Option, Some, None, refl, sym, ap, ◌∙◌, true≢false}
use Rattle.std.specs.List.{list_any}
use Rattle.std.specs.List.Sorted.{IsStrictlySortedBy}
use Rattle.std.specs.Option.{option_and_then, option_or}
use Rattle.std.specs.Str.{bytes_eq}
use Rattle.strat_base.proofs.EntryLemmas.{bytes_same, same_bytes}
use Rattle.strat_base.proofs.ListFacts.{Among, any_from, among_left, among_right, filter_among, find_some}
use Rattle.strat_base.proofs.ResultFacts.{option_cases}
use Rattle.strat_base.specs.Entries.{Entry, is_of}
use Rattle.strat_base.specs.Tree.{Parents}
use Rattle.strat_base.specs.declared.descriptors.ArrayDesc.{ArrayDesc}
use Rattle.def_crash.specs.Image.{Image}
use Rattle.strat_model.proofs.MapLemmas.{set_keeps_map}
use Rattle.strat_model.specs.Kept.{IsMap}
use Rattle.strat_model.specs.Pairs.{Pairs, set, value_of}
use Rattle.def_state.proofs.MapLemmas.{value_in-lookup, value_in-insert}
use Rattle.def_state.specs.Live.{is_live, live}
use Rattle.def_state.specs.LookUp.{first_live}
use Rattle.def_state.specs.Reading.{live_of}
use Rattle.strat_cursor.specs.Ranges.{IsMapSeen, content_on}

-- the map that has of each key of some entries what a look-up says of it
module _ (look : List ℕ → Option (List ℕ)) where
  with_found : Option (List ℕ) → List ℕ → Pairs → Pairs
  with_found None key m = m
  with_found (Some value) key m = set key value m

  collected : List Entry → Pairs
  collected [] = []
  collected (e ∷ entries) = with_found (look e.key) e.key (collected entries)

  found_keeps : (o : Option (List ℕ)) (key : List ℕ) (m : Pairs) → IsMap m → IsMap (with_found o key m)
  unfolding with_found
  found_keeps None key m is = is
  found_keeps (Some value) key m is = set_keeps_map key value m is

  collected_is : (entries : List Entry) → IsMap (collected entries)
  unfolding collected IsStrictlySortedBy
  collected_is [] = tt
  collected_is (e ∷ entries) = found_keeps (look e.key) e.key (collected entries) (collected_is entries)

  value_set : (m : Pairs) (key value q : List ℕ) → value_of (set key value m) q ≡ cond (bytes_eq q key) (Some value) (value_of m q)
  value_set m key value q =
      value_in-lookup q (set key value m) ∙ value_in-insert m key value q
      ∙ ap (λ (o : Option (List ℕ)). cond (bytes_eq q key) (Some value) o) (sym (value_in-lookup q m))

  -- a key of an entry has what is said of it
  at_key : (o : Option (List ℕ)) (m : Pairs) (key q : List ℕ) (b : Bool) → look key ≡ o → bytes_eq key q ≡ true → value_of m q ≡ cond b (look q) None → value_of (with_found o key m) q ≡ look q
  unfolding with_found
  at_key None m key q b says same rest =
      let none : look q ≡ None = ap look (sym (bytes_same key q same)) ∙ says in
      rest ∙ both b (look q) none
    where
      both : (b : Bool) (x : Option (List ℕ)) → x ≡ None → cond b x None ≡ x
      both true x e = refl
      both false x e = sym e
  at_key (Some value) m key q b says same rest =
      let is : key ≡ q = bytes_same key q same in
      value_set m key value q ∙ ap (λ (t : Bool). cond t (Some value) (value_of m q)) (same_bytes q key (sym is)) ∙ sym says ∙ ap look is

  -- and any other what the others have
  off_key : (o : Option (List ℕ)) (m : Pairs) (key q : List ℕ) → bytes_eq key q ≡ false → value_of (with_found o key m) q ≡ value_of m q
  unfolding with_found
  off_key None m key q other = refl
  off_key (Some value) m key q other = value_set m key value q ∙ ap (λ (t : Bool). cond t (Some value) (value_of m q)) (apart (bytes_eq q key) refl)
    where
      apart : (t : Bool) → bytes_eq q key ≡ t → t ≡ false
      apart false is = refl
      apart true is = absurd (true≢false (sym (same_bytes key q (sym (bytes_same q key is))) ∙ other))

  collected_has : (entries : List Entry) (q : List ℕ) → value_of (collected entries) q ≡ cond (list_any (is_of q) entries) (look q) None
  unfolding collected
  collected_has [] q = refl
  collected_has (e ∷ entries) q =
      elim (bytes_eq e.key q) as (λ b. bytes_eq e.key q ≡ b → value_of (with_found (look e.key) e.key (collected entries)) q ≡ cond (b || list_any (is_of q) entries) (look q) None) [
        | true ↦ λ same. at_key (look e.key) (collected entries) e.key q (list_any (is_of q) entries) refl same (collected_has entries q)
        | false ↦ λ other. off_key (look e.key) (collected entries) e.key q other ∙ collected_has entries q
      ] refl

-- what is found in lists is an entry of one of them
found_among : (parents : Parents) (v : ℕ) (key : List ℕ) (lists : List (List Entry)) (e : Entry) → first_live parents lists v key ≡ Some e → Among e (flat_map (λ l. l) lists) × (is_of key e ≡ true)
found_among parents v key [] e is = absurd (cc)
found_among parents v key (l ∷ lists) e is = elim (option_cases (live_of parents l v key)) [
  | inl none ↦
      let rest = found_among parents v key lists e (ap (λ (o : Option Entry). option_or o (first_live parents lists v key)) (sym none) ∙ is) in
      (among_right l (flat_map (λ (x : List Entry). x) lists) e rest.0, rest.1)
  | inr some ↦
      let here : Some some.0 ≡ Some e = ap (λ (o : Option Entry). option_or o (first_live parents lists v key)) (sym some.1) ∙ is in
      let same : some.0 ≡ e = cc in
      let at = find_some (is_of key) (live parents l v) e (some.1 ∙ ap (λ (x : Entry). Some x) same) in
      (among_left l (flat_map (λ (x : List Entry). x) lists) e (filter_among (is_live parents l v) l e at.0).0, at.1)
]

-- so there is a map of all that is found
pub map_found : (f : Image) (parents : Parents) (zeros : List (List Entry)) (arrays : List ArrayDesc) (v : ℕ) → (m : Pairs) × IsMapSeen f parents zeros arrays v m
map_found f parents zeros arrays v =
    let lists : List (List Entry) = zeros ++ map (content_on f) arrays in
    let all : List Entry = flat_map (λ l. l) lists in
    let look : List ℕ → Option (List ℕ) = λ key. option_and_then (λ e. e.value) (first_live parents lists v key) in
    (collected look all, record { ordered = collected_is look all; each = λ key. collected_has look all key ∙ each lists key (list_any (is_of key) (flat_map (λ l. l) lists)) refl })
  where
    each : (lists : List (List Entry)) (key : List ℕ) (b : Bool) → list_any (is_of key) (flat_map (λ l. l) lists) ≡ b
        → cond b (option_and_then (λ e. e.value) (first_live parents lists v key)) None ≡ option_and_then (λ (e : Entry). e.value) (first_live parents lists v key)
    each lists key true is = refl
    each lists key false is = elim (option_cases (first_live parents lists v key)) [
      | inl none ↦ sym (ap (λ (o : Option Entry). option_and_then (λ e. e.value) o) none)
      | inr some ↦
          let at = found_among parents v key lists some.0 some.1 in
          absurd (true≢false (sym (any_from (is_of key) some.0 (flat_map (λ l. l) lists) at.0 at.1) ∙ is))
    ]
