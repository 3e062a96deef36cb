-- Entries that ascend, key by key.
use Rattle.std.proofs.Common.{◌≡◌, ℕ, Bool, true, false, cond, not, inl, inr, List, [], ◌∷◌, ◌++◌, map, refl, sym, ap, ◌∙◌, subst, append_assoc, true≢false}
use Rattle.std.specs.List.{list_all, list_any}
use Rattle.std.specs.Ordering.{nat_cmp, ordering_then, ordering_reverse}
use Rattle.std.specs.declared.cmp.Ordering.{Ordering}
use Rattle.std.specs.declared.cmp.Ordering.TheVariants.{Less, Equal, Greater}
use Rattle.std.proofs.lemmas.Bool.{and_parts, and_from, not_from_false, false_from_ne_true}
use Rattle.std.proofs.lemmas.Cmp.{nat_list_cmp_total}
use Rattle.strat_base.specs.Order.{key_cmp}
use Rattle.strat_base.specs.Entries.{Entry, is_of, is_ascending}
use Rattle.strat_base.proofs.ListFacts.{Among, any_among}
use Rattle.strat_base.proofs.EntryLemmas.{is_of_key, same_bytes}
use Rattle.def_state.proofs.MapLemmas.{same_key}
use Rattle.def_state.proofs.SettingLemmas.{order, stands_first, first_of}
use Rattle.def_split.specs.Groups.{grouped_entries, group_versions, has_one_key, are_keyed_apart, AreGroups}
use Rattle.strat_check.specs.KeyWalks.{versions_behind}

-- groups with one more entry in front: in the first of them, if that has the entry's key
joined_group : Entry → List (List Entry) → List (List Entry)
joined_group e [] = (e ∷ []) ∷ []
joined_group e ([] ∷ groups) = (e ∷ []) ∷ groups
joined_group e ((d ∷ group) ∷ groups) = cond (is_of e.key d) ((e ∷ d ∷ group) ∷ groups) ((e ∷ []) ∷ (d ∷ group) ∷ groups)

-- the groups of entries that ascend
pub key_groups : List Entry → List (List Entry)
key_groups [] = []
key_groups (e ∷ entries) = joined_group e (key_groups entries)

is_filled : List Entry → Bool
is_filled [] = false
is_filled (e ∷ group) = true

-- what is known of groups that are built
record AreBuilt (groups : List (List Entry)) (entries : List Entry) : Type 0 where
  whole : grouped_entries groups ≡ entries
  filled : list_all is_filled groups ≡ true
  keyed : list_all has_one_key groups ≡ true
  apart : are_keyed_apart groups ≡ true

-- behind an entry of another key none of this key comes
no_more : (e d : Entry) (entries : List Entry) → is_of e.key d ≡ false → stands_first e (d ∷ entries) ≡ true → is_ascending (d ∷ entries) ≡ true → list_any (is_of e.key) (d ∷ entries) ≡ false
no_more e d entries other first up = false_from_ne_true (list_any (is_of e.key) (d ∷ entries)) (λ any. meet (any_among (is_of e.key) (d ∷ entries) any))
  where
    apart : (e.key ≡ d.key) → ⊥
    apart same = true≢false (sym (same_bytes d.key e.key (sym same)) ∙ other)

    less : (o : Ordering) → key_cmp e.key d.key ≡ o → ordering_then o (nat_cmp d.version e.version) ≡ Less → o ≡ Less
    less Less is h = refl
    less Equal is h = absurd (apart (same_key e.key d.key is))
    less Greater is h = absurd (cc)

    below : key_cmp e.key d.key ≡ Less
    below = less (key_cmp e.key d.key) refl (first_of e d (d ∷ entries) first (inl refl))

    behind : (x : Entry) → x.key ≡ e.key → order d x ≡ Less → ⊥
    behind x same h =
        let back : key_cmp d.key e.key ≡ Greater = nat_list_cmp_total.antisymm d.key e.key ∙ ap ordering_reverse below in
        let there : key_cmp d.key x.key ≡ Greater = ap (key_cmp d.key) same ∙ back in
        let all : ordering_then Greater (nat_cmp x.version d.version) ≡ Less = ap (λ (o : Ordering). ordering_then o (nat_cmp x.version d.version)) (sym there) ∙ h in
        absurd (cc)

    meet : (x : Entry) × Among x (d ∷ entries) × (is_of e.key x ≡ true) → ⊥
    meet found = at found.1
      where
        same : found.0.key ≡ e.key
        same = is_of_key e.key found.0 found.2

        at : Among found.0 (d ∷ entries) → ⊥
        at (inl here) = apart (sym same ∙ ap (λ (x : Entry). x.key) here)
        at (inr there) = behind found.0 same (first_of d found.0 entries (and_parts (stands_first d entries) (is_ascending entries) up).0 there)

built_more : (e : Entry) (groups : List (List Entry)) (entries : List Entry) → AreBuilt groups entries → stands_first e entries ≡ true → is_ascending entries ≡ true → AreBuilt (joined_group e groups) (e ∷ entries)
unfolding joined_group is_filled
built_more e [] entries built first up = record { whole = ap (λ (es : List Entry). e ∷ es) built.whole; filled = refl; keyed = refl; apart = refl }
built_more e ([] ∷ groups) entries built first up = absurd (true≢false (sym built.filled))
built_more e ((d ∷ group) ∷ groups) entries built first up = go (is_of e.key d) refl
  where
    keyed : (has_one_key (d ∷ group) ≡ true) × (list_all has_one_key groups ≡ true)
    keyed = and_parts (has_one_key (d ∷ group)) (list_all has_one_key groups) built.keyed

    apart : (list_all (λ (x : Entry). not (list_any (is_of x.key) (grouped_entries groups))) (d ∷ group) ≡ true) × (are_keyed_apart groups ≡ true)
    apart = and_parts (list_all (λ (x : Entry). not (list_any (is_of x.key) (grouped_entries groups))) (d ∷ group)) (are_keyed_apart groups) built.apart

    go : (b : Bool) → is_of e.key d ≡ b → AreBuilt (cond b ((e ∷ d ∷ group) ∷ groups) ((e ∷ []) ∷ (d ∷ group) ∷ groups)) (e ∷ entries)
    go true is =
        let key : d.key ≡ e.key = is_of_key e.key d is in
        let alone : not (list_any (is_of d.key) (grouped_entries groups)) ≡ true =
        (and_parts (not (list_any (is_of d.key) (grouped_entries groups))) (list_all (λ (x : Entry). not (list_any (is_of x.key) (grouped_entries groups))) group) apart.0).0 in
        record {
          whole = ap (λ (es : List Entry). e ∷ es) built.whole;
          filled = built.filled;
          keyed = and_from (has_one_key (e ∷ d ∷ group)) (list_all has_one_key groups) (and_from (is_of e.key d) (list_all (is_of e.key) group) is (subst (λ (k : List ℕ). list_all (is_of k) group ≡ true) key keyed.0)) keyed.1;
          apart = and_from (list_all (λ (x : Entry). not (list_any (is_of x.key) (grouped_entries groups))) (e ∷ d ∷ group)) (are_keyed_apart groups)
              (and_from (not (list_any (is_of e.key) (grouped_entries groups))) (list_all (λ (x : Entry). not (list_any (is_of x.key) (grouped_entries groups))) (d ∷ group))
              (subst (λ (k : List ℕ). not (list_any (is_of k) (grouped_entries groups)) ≡ true) key alone) apart.0)
              apart.1;
        }
    go false other =
        let whole : d ∷ (group ++ grouped_entries groups) ≡ entries = built.whole in
        let none : list_any (is_of e.key) (d ∷ (group ++ grouped_entries groups)) ≡ false =
        no_more e d (group ++ grouped_entries groups) other (subst (λ (es : List Entry). stands_first e es ≡ true) (sym whole) first) (subst (λ (es : List Entry). is_ascending es ≡ true) (sym whole) up) in
        record {
          whole = ap (λ (es : List Entry). e ∷ es) built.whole;
          filled = built.filled;
          keyed = built.keyed;
          apart = and_from (list_all (λ (x : Entry). not (list_any (is_of x.key) (grouped_entries ((d ∷ group) ∷ groups)))) (e ∷ [])) (are_keyed_apart ((d ∷ group) ∷ groups))
              (and_from (not (list_any (is_of e.key) (grouped_entries ((d ∷ group) ∷ groups)))) true (not_from_false (list_any (is_of e.key) (grouped_entries ((d ∷ group) ∷ groups))) none) refl)
              built.apart;
        }

built : (entries : List Entry) → is_ascending entries ≡ true → AreBuilt (key_groups entries) entries
unfolding key_groups
built [] up = record { whole = refl; filled = refl; keyed = refl; apart = refl }
built (e ∷ entries) up =
    let parts = and_parts (stands_first e entries) (is_ascending entries) up in
    built_more e (key_groups entries) entries (built entries parts.1) parts.0 parts.1

-- entries that ascend are groups
pub groups_of : (entries : List Entry) → is_ascending entries ≡ true → AreGroups (key_groups entries) × (grouped_entries (key_groups entries) ≡ entries)
groups_of entries up =
    let are = built entries up in
    (record { keyed = are.keyed; apart = are.apart; ascending = ap is_ascending are.whole ∙ up }, are.whole)

-- The versions of groups, as a walk over the entries gives them.

-- the versions of groups, of which the first is joined with those of a key at hand if it has that key
front_versions : List ℕ → List ℕ → List (List Entry) → List (List ℕ)
front_versions key versions [] = versions ∷ []
front_versions key versions ([] ∷ groups) = versions ∷ group_versions groups
front_versions key versions ((d ∷ group) ∷ groups) =
    cond (is_of key d) ((versions ++ map (λ (x : Entry). x.version) (d ∷ group)) ∷ group_versions groups) (versions ∷ group_versions ((d ∷ group) ∷ groups))

begun_versions : (e : Entry) (groups : List (List Entry)) → front_versions e.key (e.version ∷ []) groups ≡ group_versions (joined_group e groups)
unfolding joined_group front_versions
begun_versions e [] = refl
begun_versions e ([] ∷ groups) = refl
begun_versions e ((d ∷ group) ∷ groups) = go (is_of e.key d)
  where
    go : (b : Bool) → cond b ((e.version ∷ map (λ (x : Entry). x.version) (d ∷ group)) ∷ group_versions groups) ((e.version ∷ []) ∷ group_versions ((d ∷ group) ∷ groups))
        ≡ group_versions (cond b ((e ∷ d ∷ group) ∷ groups) ((e ∷ []) ∷ (d ∷ group) ∷ groups))
    go true = refl
    go false = refl

-- an entry of the key at hand is joined to it
front_same : (key versions : List ℕ) (e : Entry) (groups : List (List Entry)) → is_of key e ≡ true
    → front_versions key (versions ++ e.version ∷ []) groups ≡ front_versions key versions (joined_group e groups)
unfolding joined_group front_versions
front_same key versions e [] is =
    sym (ap (λ (b : Bool). cond b ((versions ++ e.version ∷ []) ∷ []) (versions ∷ (e.version ∷ []) ∷ [])) is)
front_same key versions e ([] ∷ groups) is =
    sym (ap (λ (b : Bool). cond b ((versions ++ e.version ∷ []) ∷ group_versions groups) (versions ∷ (e.version ∷ []) ∷ group_versions groups)) is)
front_same key versions e ((d ∷ group) ∷ groups) is =
    go (is_of key d) ∙ ap (λ (k : List ℕ). front_versions key versions (cond (is_of k d) ((e ∷ d ∷ group) ∷ groups) ((e ∷ []) ∷ (d ∷ group) ∷ groups))) (sym (is_of_key key e is))
  where
    go : (b : Bool) → cond b (((versions ++ e.version ∷ []) ++ map (λ (x : Entry). x.version) (d ∷ group)) ∷ group_versions groups) ((versions ++ e.version ∷ []) ∷ group_versions ((d ∷ group) ∷ groups))
        ≡ front_versions key versions (cond b ((e ∷ d ∷ group) ∷ groups) ((e ∷ []) ∷ (d ∷ group) ∷ groups))
    go true =
        ap (λ (vs : List ℕ). vs ∷ group_versions groups) (append_assoc versions (e.version ∷ []) (map (λ (x : Entry). x.version) (d ∷ group)))
        ∙ sym (ap (λ (b : Bool). cond b ((versions ++ map (λ (x : Entry). x.version) (e ∷ d ∷ group)) ∷ group_versions groups) (versions ∷ group_versions ((e ∷ d ∷ group) ∷ groups))) is)
    go false =
        sym (ap (λ (b : Bool). cond b ((versions ++ e.version ∷ []) ∷ group_versions ((d ∷ group) ∷ groups)) (versions ∷ group_versions ((e ∷ []) ∷ (d ∷ group) ∷ groups))) is)

-- one of another key begins a group
front_other : (key versions : List ℕ) (e : Entry) (groups : List (List Entry)) → is_of key e ≡ false
    → versions ∷ group_versions (joined_group e groups) ≡ front_versions key versions (joined_group e groups)
unfolding joined_group front_versions
front_other key versions e [] other =
    sym (ap (λ (b : Bool). cond b ((versions ++ e.version ∷ []) ∷ []) (versions ∷ (e.version ∷ []) ∷ [])) other)
front_other key versions e ([] ∷ groups) other =
    sym (ap (λ (b : Bool). cond b ((versions ++ e.version ∷ []) ∷ group_versions groups) (versions ∷ (e.version ∷ []) ∷ group_versions groups)) other)
front_other key versions e ((d ∷ group) ∷ groups) other = go (is_of e.key d)
  where
    go : (b : Bool) → versions ∷ group_versions (cond b ((e ∷ d ∷ group) ∷ groups) ((e ∷ []) ∷ (d ∷ group) ∷ groups))
        ≡ front_versions key versions (cond b ((e ∷ d ∷ group) ∷ groups) ((e ∷ []) ∷ (d ∷ group) ∷ groups))
    go true =
        sym (ap (λ (b : Bool). cond b ((versions ++ map (λ (x : Entry). x.version) (e ∷ d ∷ group)) ∷ group_versions groups) (versions ∷ group_versions ((e ∷ d ∷ group) ∷ groups))) other)
    go false =
        sym (ap (λ (b : Bool). cond b ((versions ++ e.version ∷ []) ∷ group_versions ((d ∷ group) ∷ groups)) (versions ∷ group_versions ((e ∷ []) ∷ (d ∷ group) ∷ groups))) other)

behind_front : (key : List ℕ) (v : ℕ) (versions : List ℕ) (entries : List Entry) → versions_behind key (v ∷ versions) entries ≡ front_versions key (v ∷ versions) (key_groups entries)
unfolding key_groups versions_behind front_versions
behind_front key v versions [] = refl
behind_front key v versions (e ∷ entries) = go (behind_front key v (versions ++ e.version ∷ []) entries) (behind_front e.key e.version [] entries) (is_of key e) refl
  where
    go : versions_behind key (v ∷ (versions ++ e.version ∷ [])) entries ≡ front_versions key (v ∷ (versions ++ e.version ∷ [])) (key_groups entries)
        → versions_behind e.key (e.version ∷ []) entries ≡ front_versions e.key (e.version ∷ []) (key_groups entries) → (b : Bool) → is_of key e ≡ b
        → cond b (versions_behind key (v ∷ (versions ++ e.version ∷ [])) entries) ((v ∷ versions) ∷ versions_behind e.key (e.version ∷ []) entries)
        ≡ front_versions key (v ∷ versions) (joined_group e (key_groups entries))
    go rest other true is = rest ∙ front_same key (v ∷ versions) e (key_groups entries) is
    go same rest false is =
        ap (λ (vs : List (List ℕ)). (v ∷ versions) ∷ vs) (rest ∙ begun_versions e (key_groups entries))
        ∙ front_other key (v ∷ versions) e (key_groups entries) is

-- behind no version at all come those of all groups
pub all_behind : (key : List ℕ) (entries : List Entry) → versions_behind key [] entries ≡ group_versions (key_groups entries)
unfolding key_groups versions_behind
all_behind key [] = refl
all_behind key (e ∷ entries) = go (is_of key e) refl ∙ behind_front e.key e.version [] entries ∙ begun_versions e (key_groups entries)
  where
    go : (b : Bool) → is_of key e ≡ b
        → cond b (versions_behind key (e.version ∷ []) entries) (versions_behind e.key (e.version ∷ []) entries) ≡ versions_behind e.key (e.version ∷ []) entries
    go true is = ap (λ (k : List ℕ). versions_behind k (e.version ∷ []) entries) (sym (is_of_key key e is))
    go false is = refl
