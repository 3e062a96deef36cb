-- Pairs that are read are those that were spelled, and what was spelled is read again.
use Rattle.std.proofs.Common.{◌≡◌, ℕ, zero, suc, ◌+◌, ◌-◌, ◌<◌, ◌≤◌, Bool, true, false, cond, leb, List, [], ◌∷◌, ◌++◌, length, Option, Some, None, refl, sym, ap, subst, ◌∙◌, append_assoc, append-nil, arith}
use Rattle.std.proofs.lemmas.Bool.{leb-true, le-leb, and_parts}
use Rattle.std.proofs.lemmas.Option.{cond_some, same_Some}
use Rattle.std.specs.List.{AllByRecursion}
use Rattle.std.specs.Option.{option_and_then, option_map}
use Rattle.strat_base.specs.Numbers.{be, AreBytes}
use Rattle.strat_base.specs.Sizes.{is_key, is_value}
use Rattle.strat_base.specs.declared.limits.TheConstants.{PAIRS_MAX}
use Rattle.strat_base.proofs.NumberLemmas.{be-number_2}
use Rattle.strat_model.specs.Pairs.{Pair, Pairs}
use Rattle.strat_model.specs.Spelling.{counted, is_pair, pair_bytes, FitsCount}
use Rattle.strat_frame.specs.Fields.{number_then, counted_then, both, pair_then, pairs_then, listed_then}
use Rattle.strat_frame.proofs.FieldLemmas.{bind_some, two_parts, Reads, number_reads, counted_reads, both_read}

-- pairs that were read, and those that are read behind them
unfoldable pub continued : Pairs → Option (Pairs × List ℕ) → Option (Pairs × List ℕ)
continued xs read = option_map (λ r. (xs ++ r.0, r.1)) read

pub continued_none : (read : Option (Pairs × List ℕ)) → continued [] read ≡ read
unfolding continued
continued_none None = refl
continued_none (Some r) = refl

continued_one : (xs : Pairs) (x : Pair) (read : Option (Pairs × List ℕ))
    → continued (xs ++ x ∷ []) read ≡ continued xs (option_and_then (λ ys. Some (x ∷ ys.0, ys.1)) read)
unfolding continued
continued_one xs x None = refl
continued_one xs x (Some r) = ap (λ (ys : Pairs). Some (ys, r.1)) (append_assoc xs (x ∷ []) r.0)

-- one more pair was read
pub pair_read : (n i : ℕ) (xs : Pairs) (x : Pair) (before after : List ℕ) → i < n → pair_then before ≡ Some (x, after)
    → continued (xs ++ x ∷ []) (pairs_then (n - (i + 1)) after) ≡ continued xs (pairs_then (n - i) before)
unfolding pairs_then
pair_read n i xs x before after more is =
    let left : n - i ≡ suc (n - (i + 1)) = omega arith in
    rw (left, is) (continued_one xs x (pairs_then (n - (i + 1)) after))

-- a pair could not be read
pub pair_missing : (n i : ℕ) (xs : Pairs) (before : List ℕ) → i < n → pair_then before ≡ None → continued xs (pairs_then (n - i) before) ≡ None
unfolding pairs_then continued
pair_missing n i xs before more is =
    let left : n - i ≡ suc (n - (i + 1)) = omega arith in
    rw (left, is) refl

-- all pairs were read
pub pairs_read : (n i : ℕ) (xs : Pairs) (end : List ℕ) → n ≤ i → continued xs (pairs_then (n - i) end) ≡ Some (xs, end)
unfolding pairs_then continued
pairs_read n i xs end over =
    let left : n - i ≡ 0 = omega arith in
    rw left (ap (λ (ys : Pairs). Some (ys, end)) (append-nil xs))

-- a choice that found a value passed its test
passed : {A : Type 0} (b : Bool) (o : Option A) (y : A) → cond b o None ≡ Some y → (b ≡ true) × (o ≡ Some y)
passed true o y e = (refl, e)
passed false o y e = absurd cc

-- a pair of lawful sizes is spelled as its key and its value
abbrev pair_text : Pair → List ℕ
pair_text pair = counted pair.0 ++ counted pair.1

two_counted : Reads Pair (both counted_then counted_then) pair_text (λ x. FitsCount x.0 × FitsCount x.1)
two_counted = both_read counted_then counted_then counted counted FitsCount FitsCount counted_reads counted_reads

pair_reads : Reads Pair pair_then pair_text (λ x. is_pair x ≡ true)
unfolding pair_then
pair_reads = record {
  takes = λ bytes x rest fits e.
      let a = bind_some (λ (y : Pair × List ℕ). cond (is_pair y.0) (Some y) None) (both counted_then counted_then bytes) (x, rest) e in
      let g = cond_some (is_pair a.0.0) a.0 (x, rest) a.2 in
      let t = two_counted.takes bytes a.0.0 a.0.1 fits a.1 in
      subst (λ (y : Pair × List ℕ). (bytes ≡ pair_text y.0 ++ y.1) × AreBytes y.1 × (is_pair y.0 ≡ true)) g.1 (t.0, t.1, g.0);
  again = λ x rest fits.
      let parts = and_parts (is_key x.0) (is_value x.1) fits in
      let key = and_parts (leb 1 (length x.0)) (leb (length x.0) 255) parts.0 in
      let key_short : FitsCount x.0 = omega (arith, leb-true (length x.0) 255 key.1) in
      let value_short : FitsCount x.1 = omega (arith, leb-true (length x.1) 1024 parts.1) in
      rw (two_counted.again x rest (key_short, value_short), fits) refl;
}

-- n pairs that were read from the front of bytes
record ArePairs (n : ℕ) (bytes : List ℕ) (pairs : Pairs) (rest : List ℕ) : Type 0 where
  pub text : bytes ≡ pair_bytes pairs ++ rest
  pub after : AreBytes rest
  pub count : length pairs ≡ n
  pub each : AllByRecursion (λ pair. is_pair pair ≡ true) pairs

pairs_take : (n : ℕ) (bytes : List ℕ) (pairs : Pairs) (rest : List ℕ) → AreBytes bytes → pairs_then n bytes ≡ Some (pairs, rest) → ArePairs n bytes pairs rest
unfolding pairs_then
pairs_take zero bytes pairs rest fits e =
    subst (λ (y : Pairs × List ℕ). ArePairs zero bytes y.0 y.1) (same_Some ([], bytes) (pairs, rest) e) (record { text = refl; after = fits; count = refl; each = tt })
pairs_take (suc n) bytes pairs rest fits e =
    let a = bind_some (λ (x : Pair × List ℕ). option_and_then (λ (xs : Pairs × List ℕ). Some (x.0 ∷ xs.0, xs.1)) (pairs_then n x.1)) (pair_then bytes) (pairs, rest) e in
    let b = bind_some (λ (xs : Pairs × List ℕ). Some (a.0.0 ∷ xs.0, xs.1)) (pairs_then n a.0.1) (pairs, rest) a.2 in
    let t = pair_reads.takes bytes a.0.0 a.0.1 fits a.1 in
    let p = pairs_take n a.0.1 b.0.0 b.0.1 t.1 b.1 in
    subst (λ (y : Pairs × List ℕ). ArePairs (suc n) bytes y.0 y.1) (same_Some (a.0.0 ∷ b.0.0, b.0.1) (pairs, rest) b.2) (record {
      text = two_parts bytes (pair_text a.0.0) a.0.1 (pair_bytes b.0.0) b.0.1 t.0 p.text;
      after = p.after;
      count = ap suc p.count;
      each = (t.2, p.each);
    })

pairs_again : (pairs : Pairs) (rest : List ℕ) → AllByRecursion (λ pair. is_pair pair ≡ true) pairs → pairs_then (length pairs) (pair_bytes pairs ++ rest) ≡ Some (pairs, rest)
unfolding pairs_then
pairs_again [] rest each = refl
pairs_again (x ∷ pairs) rest each =
    rw (append_assoc (pair_text x) (pair_bytes pairs) rest, pair_reads.again x (pair_bytes pairs ++ rest) each.0, pairs_again pairs rest each.1) refl

-- pairs as a page may have them
pub record IsListed (pairs : Pairs) : Type 0 where
  pub few : length pairs ≤ PAIRS_MAX
  pub each : AllByRecursion (λ pair. is_pair pair ≡ true) pairs

pub listed_reads : Reads Pairs listed_then (λ xs. be 2 (length xs) ++ pair_bytes xs) IsListed
unfolding listed_then
listed_reads = record {
  takes = λ bytes xs rest fits e.
      let a = bind_some (λ (n : ℕ × List ℕ). cond (leb n.0 256) (pairs_then n.0 n.1) None) (number_then 2 bytes) (xs, rest) e in
      let t = (number_reads 2 be-number_2).takes bytes a.0.0 a.0.1 fits a.1 in
      let g = passed (leb a.0.0 256) (pairs_then a.0.0 a.0.1) (xs, rest) a.2 in
      let p = pairs_take a.0.0 a.0.1 xs rest t.1 g.1 in
      let front : bytes ≡ be 2 (length xs) ++ a.0.1 = t.0 ∙ ap (λ (k : ℕ). be 2 k ++ a.0.1) (sym p.count) in (
        two_parts bytes (be 2 (length xs)) a.0.1 (pair_bytes xs) rest front p.text,
        p.after,
        record { few = omega (arith, leb-true a.0.0 256 g.0, p.count); each = p.each },
      );
  again = λ xs rest fits.
      let few : leb (length xs) 256 ≡ true = le-leb (length xs) 256 fits.few in
      rw (append_assoc (be 2 (length xs)) (pair_bytes xs) rest, (number_reads 2 be-number_2).again (length xs) (pair_bytes xs ++ rest) (omega (arith, fits.few)), few, pairs_again xs rest fits.each) refl;
}
