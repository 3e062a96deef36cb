-- A search by halving among the entries of a block.
use Rattle.std.proofs.Common.{◌≡◌, ◌<◌, ◌≤◌, ◌+◌, ℕ, zero, suc, Bool, true, false, leb, ltb, ◌&&◌, inl, inr, List, [], ◌∷◌, length, get_or, refl, sym, ap, ◌∙◌, subst, arith, true≢false}
use Rattle.std.specs.List.{list_all}
use Rattle.std.specs.Ordering.{is_lt, nat_cmp, ordering_then}
use Rattle.std.specs.declared.cmp.Ordering.{Ordering}
use Rattle.std.specs.declared.cmp.Ordering.TheVariants.{Less, Equal, Greater}
use Rattle.std.proofs.lemmas.Bool.{and_parts, cases_order}
use Rattle.std.proofs.lemmas.Cmp.{nat_list_cmp_total}
use Rattle.strat_base.specs.Order.{key_cmp}
use Rattle.strat_base.specs.Entries.{Entry, is_ascending}
use Rattle.strat_base.specs.EntryBytes.{fits_fields}
use Rattle.strat_base.proofs.ListFacts.{Among}
use Rattle.def_bytes.specs.Block.{fits_block, block_front}
use Rattle.strat_block.specs.Places.{stands_below}
use Rattle.strat_block.proofs.OrderLemmas.{compares, key_tied, is_before_all, before_each}

pub ascending_of : (entries : List Entry) → fits_block entries ≡ true → is_ascending entries ≡ true
ascending_of entries fits =
    let all' = and_parts (ltb 0 (length entries) && list_all fits_fields entries && is_ascending entries) (leb (length (block_front entries)) 4096) fits in
    (and_parts (ltb 0 (length entries) && list_all fits_fields entries) (is_ascending entries) all'.0).1

among_there : {X : Type 0} (xs : List X) (i : ℕ) (d : X) → i < length xs → Among (get_or xs i d) xs
among_there [] i d lt = absurd (omega arith)
among_there (x ∷ xs) zero d lt = inl refl
among_there (x ∷ xs) (suc i) d lt = inr (among_there xs i d (omega arith))

-- of two places the entry at the first stands before the other
compares_at : (entries : List Entry) (i j : ℕ) (d f : Entry) → is_ascending entries ≡ true → i < j → j < length entries → compares (get_or entries i d) (get_or entries j f) ≡ Less
compares_at [] i j d f up lt within = absurd (omega arith)
compares_at (e ∷ entries) i zero d f up lt within = absurd (omega arith)
compares_at (e ∷ entries) zero (suc j) d f up lt within =
    before_each e (get_or entries j f) entries (and_parts (is_before_all e entries) (is_ascending entries) up).0 (among_there entries j f (omega arith))
compares_at (e ∷ entries) (suc i) (suc j) d f up lt within =
    compares_at entries i j d f (and_parts (is_before_all e entries) (is_ascending entries) up).1 (omega arith) (omega arith)

less_is : (o : Ordering) → is_lt o ≡ true → o ≡ Less
less_is Less h = refl
less_is Equal h = absurd (true≢false (sym h))
less_is Greater h = absurd (true≢false (sym h))

-- what stands before an entry below a key is below it
below_through : (key : List ℕ) (e d : Entry) → compares e d ≡ Less → stands_below key d ≡ true → stands_below key e ≡ true
below_through key e d less below = go (key_cmp e.key d.key) refl less
  where
    next : key_cmp d.key key ≡ Less
    next = less_is (key_cmp d.key key) below

    go : (o : Ordering) → key_cmp e.key d.key ≡ o → ordering_then o (nat_cmp d.version e.version) ≡ Less → stands_below key e ≡ true
    go Less is h = ap is_lt (nat_list_cmp_total.trans e.key d.key key is next)
    go Equal is h = ap (λ (x : List ℕ). is_lt (key_cmp x key)) (key_tied e.key d.key is) ∙ ap is_lt next
    go Greater is h = absurd (cc)

module _ (key : List ℕ) (entries : List Entry) (up : is_ascending entries ≡ true) (mid : ℕ) (within : mid < length entries) where
  -- where an entry is below a key, all up to it are
  pub below_before : ((d : Entry) → stands_below key (get_or entries mid d) ≡ true) → (k : ℕ) (d : Entry) → k < mid + 1 → stands_below key (get_or entries k d) ≡ true
  below_before below k d lt =
      elim (cases_order k mid) [
        | inl here ↦ subst (λ (i : ℕ). stands_below key (get_or entries i d) ≡ true) (sym here) (below d)
        | inr apart ↦
            elim apart [
              | inl before ↦ below_through key (get_or entries k d) (get_or entries mid d) (compares_at entries k mid d d up before within) (below d)
              | inr after ↦ absurd (omega arith)
            ]
      ]

  -- where an entry is not, none from it on is
  pub above_after : ((d : Entry) → stands_below key (get_or entries mid d) ≡ false) → (k : ℕ) (d : Entry) → mid ≤ k → k < length entries → stands_below key (get_or entries k d) ≡ false
  above_after above k d le lt =
      elim (cases_order mid k) [
        | inl here ↦ subst (λ (i : ℕ). stands_below key (get_or entries i d) ≡ false) here (above d)
        | inr apart ↦
            elim apart [
              | inl before ↦ go (stands_below key (get_or entries k d)) refl (compares_at entries mid k d d up before lt)
              | inr after ↦ absurd (omega arith)
            ]
      ]
    where
      go : (b : Bool) → stands_below key (get_or entries k d) ≡ b → compares (get_or entries mid d) (get_or entries k d) ≡ Less → b ≡ false
      go true is less = absurd (true≢false (sym (below_through key (get_or entries mid d) (get_or entries k d) less is) ∙ above d))
      go false is less = refl
