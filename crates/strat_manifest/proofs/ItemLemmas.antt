-- Lists of items that are read one by one.
use Rattle.std.proofs.Common.{◌≡◌, ◌+◌, ◌-◌, ◌<◌, ◌≤◌, ℕ, suc, List, [], ◌∷◌, ◌++◌, Some, None, refl, ap, arith, append_assoc, append-nil}
use Rattle.def_bytes.specs.Manifest.{Parsed, next, read_items}

-- items that were read, and those that are read behind them
unfoldable pub continued : {A : Type 0} → List A → Parsed (List A) → Parsed (List A)
continued xs read = next read (λ ys end. Some (xs ++ ys, end))

module _ {A : Type 0} where
  pub continued_none : (read : Parsed (List A)) → continued [] read ≡ read
  unfolding continued
  continued_none None = refl
  continued_none (Some r) = refl

  continued_one : (xs : List A) (x : A) (read : Parsed (List A))
      → continued (xs ++ x ∷ []) read ≡ continued xs (next read (λ ys end. Some (x ∷ ys, end)))
  unfolding continued
  continued_one xs x None = refl
  continued_one xs x (Some r) = ap (λ (ys : List A). Some (ys, r.1)) (append_assoc xs (x ∷ []) r.0)

module _ {A : Type 0} (read : List ℕ → Parsed A) where
  -- one more item was read
  pub item_read : (n i : ℕ) (xs : List A) (x : A) (before after : List ℕ) → i < n → read before ≡ Some (x, after)
      → continued (xs ++ x ∷ []) (read_items read (n - (i + 1)) after) ≡ continued xs (read_items read (n - i) before)
  unfolding read_items
  item_read n i xs x before after more is =
      let left : n - i ≡ suc (n - (i + 1)) = omega arith in
      rw (left, is) (continued_one xs x (read_items read (n - (i + 1)) after))

  -- an item could not be read
  pub item_missing : (n i : ℕ) (xs : List A) (before : List ℕ) → i < n → read before ≡ None → continued xs (read_items read (n - i) before) ≡ None
  unfolding read_items continued
  item_missing n i xs before more is =
      let left : n - i ≡ suc (n - (i + 1)) = omega arith in
      rw (left, is) refl

  -- all items were read
  pub items_read : (n i : ℕ) (xs : List A) (end : List ℕ) → n ≤ i → continued xs (read_items read (n - i) end) ≡ Some (xs, end)
  unfolding read_items continued
  items_read n i xs end over =
      let left : n - i ≡ 0 = omega arith in
      rw left (ap (λ (ys : List A). Some (ys, end)) (append-nil xs))
