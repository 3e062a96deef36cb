-- Maps as lists of pairs in the order of their keys.
use Rattle.std.proofs.Common.{◌≡◌, ℕ, Bool, true, false, cond, T, ◌&&◌, List, [], ◌∷◌, Option, Some, None, refl, sym, ap, ◌∙◌, subst, true≢false}
use Rattle.std.specs.Str.{bytes_eq}
use Rattle.std.specs.Map.{lookup, remove_entry}
use Rattle.std.specs.BTreeMap.{insert_entry}
use Rattle.std.specs.Ordering.{is_eq, is_lt, match_ordering}
use Rattle.std.specs.FinMap.{slice_cmp-IsAntisymmetric, nat_cmp-IsAntisymmetric}
use Rattle.std.specs.FinMap.Entries.{by_order, put, find, below_all, is_sorted, is_sorted-put, find-put, same_entries}
use Rattle.std.specs.declared.cmp.Ordering.{Ordering}
use Rattle.std.specs.declared.cmp.Ordering.TheVariants.{Less, Equal, Greater}
use Rattle.std.proofs.lemmas.Cmp.{tied_itself, nat_list_cmp_total}
use Rattle.std.proofs.lemmas.Map.Text.{is_eq-slice_cmp}
use Rattle.strat_base.specs.Order.{key_cmp}

-- a map
abbrev pub Pairs : Type 0
Pairs = List (List ℕ × List ℕ)

insert_put : (pairs : Pairs) (key value : List ℕ) → insert_entry key_cmp pairs key value ≡ put key_cmp key value pairs
insert_put [] key value = refl
insert_put (e ∷ es) key value =
    elim (key_cmp key e.0) as (λ o. match_ordering o ((key, value) ∷ e ∷ es) ((e.0, value) ∷ es) (e ∷ insert_entry key_cmp es key value) ≡ by_order o ((key, value) ∷ e ∷ es) ((e.0, value) ∷ es) (e ∷ put key_cmp key value es)) [
      | Less ↦ refl
      | Equal ↦ refl
      | Greater ↦ ap (λ (x : Pairs). e ∷ x) (insert_put es key value)
    ]

-- a map is in order
abbrev pub InOrder : Pairs → Type 0
InOrder pairs = T (is_sorted key_cmp pairs)

-- the value of a key
abbrev pub value_in : List ℕ → Pairs → Option (List ℕ)
value_in q pairs = find key_cmp q pairs

pub value_in-lookup : (q : List ℕ) (pairs : Pairs) → lookup (λ k. is_eq (key_cmp q k)) pairs ≡ value_in q pairs
value_in-lookup q [] = refl
value_in-lookup q (e ∷ es) = ap (λ (o : Option (List ℕ)). cond (is_eq (key_cmp q e.0)) (Some e.1) o) (value_in-lookup q es)

pub InOrder-insert : (pairs : Pairs) (key value : List ℕ) → InOrder pairs → InOrder (insert_entry key_cmp pairs key value)
InOrder-insert pairs key value h =
    let P : Pairs → Type 0 = λ x. InOrder x in
    subst P (sym (insert_put pairs key value)) (is_sorted-put key_cmp nat_list_cmp_total key value pairs h)

pub value_in-insert : (pairs : Pairs) (key value q : List ℕ) → value_in q (insert_entry key_cmp pairs key value) ≡ cond (bytes_eq q key) (Some value) (value_in q pairs)
value_in-insert pairs key value q =
    ap (find key_cmp q) (insert_put pairs key value) ∙ find-put key_cmp nat_list_cmp_total q key value pairs
    ∙ ap (λ (b : Bool). cond b (Some value) (value_in q pairs)) (is_eq-slice_cmp q key)

pub same_key : (x y : List ℕ) → key_cmp x y ≡ Equal → x ≡ y
same_key x y e = slice_cmp-IsAntisymmetric nat_cmp-IsAntisymmetric x y e

-- two maps in order with the same values are one
pub same_map : (one other : Pairs) → InOrder one → InOrder other → ((q : List ℕ) → value_in q one ≡ value_in q other) → one ≡ other
same_map one other a b each = same_entries key_cmp nat_list_cmp_total same_key one other a b each

and_first : (a b : Bool) → T (a && b) → T a
and_first true b h = tt
and_first false b h = h

and_second : (a b : Bool) → T (a && b) → T b
and_second true b h = h
and_second false b h = absurd h

and_both : (a b : Bool) → T a → T b → T (a && b)
and_both true b g h = h
and_both false b g h = absurd g

-- the keys behind one are other keys
above_apart : (q : List ℕ) (es : Pairs) → T (below_all key_cmp q es) → value_in q es ≡ None
above_apart q [] h = refl
above_apart q (e ∷ es) h =
    elim (key_cmp q e.0) as (λ o. T (is_lt o) → cond (is_eq o) (Some e.1) (value_in q es) ≡ None) [
      | Less ↦ λ lt. above_apart q es (and_second (is_lt (key_cmp q e.0)) (below_all key_cmp q es) h)
      | Equal ↦ λ lt. absurd lt
      | Greater ↦ λ lt. absurd lt
    ] (and_first (is_lt (key_cmp q e.0)) (below_all key_cmp q es) h)

below_remove : (x key : List ℕ) (es : Pairs) → T (below_all key_cmp x es) → T (below_all key_cmp x (remove_entry (λ k. is_eq (key_cmp key k)) es))
below_remove x key [] h = tt
below_remove x key (e ∷ es) h =
    let first = and_first (is_lt (key_cmp x e.0)) (below_all key_cmp x es) h in
    let rest = and_second (is_lt (key_cmp x e.0)) (below_all key_cmp x es) h in
    elim (is_eq (key_cmp key e.0)) as (λ b. T (below_all key_cmp x (cond b es (e ∷ remove_entry (λ k. is_eq (key_cmp key k)) es)))) [
      | true ↦ rest
      | false ↦ and_both (is_lt (key_cmp x e.0)) (below_all key_cmp x (remove_entry (λ k. is_eq (key_cmp key k)) es)) first (below_remove x key es rest)
    ]

pub InOrder-remove : (pairs : Pairs) (key : List ℕ) → InOrder pairs → InOrder (remove_entry (λ k. is_eq (key_cmp key k)) pairs)
InOrder-remove [] key h = tt
InOrder-remove (e ∷ es) key h =
    let first = and_first (below_all key_cmp e.0 es) (is_sorted key_cmp es) h in
    let rest = and_second (below_all key_cmp e.0 es) (is_sorted key_cmp es) h in
    elim (is_eq (key_cmp key e.0)) as (λ b. InOrder (cond b es (e ∷ remove_entry (λ k. is_eq (key_cmp key k)) es))) [
      | true ↦ rest
      | false ↦ and_both (below_all key_cmp e.0 (remove_entry (λ k. is_eq (key_cmp key k)) es)) (is_sorted key_cmp (remove_entry (λ k. is_eq (key_cmp key k)) es)) (below_remove e.0 key es first) (InOrder-remove es key rest)
    ]

is_equal : (o : Ordering) → is_eq o ≡ true → o ≡ Equal
is_equal Less e = absurd (true≢false (sym e))
is_equal Equal e = refl
is_equal Greater e = absurd (true≢false (sym e))

key_test : (x y : List ℕ) → is_eq (key_cmp x y) ≡ true → x ≡ y
key_test x y e = same_key x y (is_equal (key_cmp x y) e)

test_key : (x : List ℕ) → is_eq (key_cmp x x) ≡ true
test_key x = ap is_eq (tied_itself nat_list_cmp_total x)

pub value_in-remove : (pairs : Pairs) (key q : List ℕ) → InOrder pairs → value_in q (remove_entry (λ k. is_eq (key_cmp key k)) pairs) ≡ cond (is_eq (key_cmp q key)) None (value_in q pairs)
value_in-remove [] key q h = elim (is_eq (key_cmp q key)) as (λ b. value_in q [] ≡ cond b None (value_in q [])) [ true ↦ refl | false ↦ refl ]
value_in-remove (e ∷ es) key q h =
    let above = and_first (below_all key_cmp e.0 es) (is_sorted key_cmp es) h in
    let rest = and_second (below_all key_cmp e.0 es) (is_sorted key_cmp es) h in
    let removed : Pairs = remove_entry (λ k. is_eq (key_cmp key k)) es in
    elim (is_eq (key_cmp key e.0)) as (λ b. is_eq (key_cmp key e.0) ≡ b → value_in q (cond b es (e ∷ removed)) ≡ cond (is_eq (key_cmp q key)) None (value_in q (e ∷ es))) [
      | true ↦ λ hit.
          let k : key ≡ e.0 = key_test key e.0 hit in
          elim (is_eq (key_cmp q key)) as (λ b. is_eq (key_cmp q key) ≡ b → value_in q es ≡ cond b None (value_in q (e ∷ es))) [
            | true ↦ λ same. let at : q ≡ e.0 = key_test q key same ∙ k in ap (λ (x : List ℕ). value_in x es) at ∙ above_apart e.0 es above
            | false ↦ λ other. sym (ap (λ (b : Bool). cond b (Some e.1) (value_in q es)) (ap (λ (x : List ℕ). is_eq (key_cmp q x)) (sym k) ∙ other))
          ] refl
      | false ↦ λ miss.
          let ih = value_in-remove es key q rest in
          elim (is_eq (key_cmp q e.0)) as (λ b. is_eq (key_cmp q e.0) ≡ b → cond b (Some e.1) (value_in q removed) ≡ cond (is_eq (key_cmp q key)) None (cond b (Some e.1) (value_in q es))) [
            | true ↦ λ here.
                let at : q ≡ e.0 = key_test q e.0 here in
                elim (is_eq (key_cmp q key)) as (λ b. is_eq (key_cmp q key) ≡ b → Some e.1 ≡ cond b None (Some e.1)) [
                  | true ↦ λ same. absurd (true≢false (sym (ap (λ (x : List ℕ). is_eq (key_cmp x e.0)) (sym (key_test q key same) ∙ at) ∙ test_key e.0) ∙ miss))
                  | false ↦ λ other. refl
                ] refl
            | false ↦ λ there. ih
          ] refl
    ] refl
