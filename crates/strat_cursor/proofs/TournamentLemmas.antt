-- What a tournament sees of sources, by their numbers.
use Rattle.std.proofs.Common.{◌≡◌, ◌≢◌, ◌<◌, ◌+◌, ◌/◌, ℕ, true, false, zero, suc, get_or, set, List, [], ◌∷◌, length, Option, Some, None, is_some, IsSome, refl, sym, ap, ◌∙◌, subst, arith}
use Rattle.std.specs.List.{slice_get}
use Rattle.std.specs.Option.{option_map, option_and_then}
use Rattle.std.specs.Ordering.{is_lt, nat_cmp, ordering_then}
use Rattle.std.specs.declared.cmp.Ordering.{Ordering}
use Rattle.std.specs.declared.cmp.Ordering.TheVariants.{Less, Equal, Greater}
use Rattle.strat_arena.specs.declared.pool.PoolEntry.{PoolEntry}
use Rattle.strat_base.specs.Entries.{Entry}
use Rattle.strat_base.specs.Order.{key_cmp}
use Rattle.strat_merge.specs.Runs.{head_at}
use Rattle.strat_merge.specs.Bracket.{is_ahead, IsBracket, IsTournament, PlayedBeside}
use Rattle.strat_merge.proofs.BracketLemmas.{beside_leaf}
use Rattle.std.proofs.lemmas.List.{length-set}
use Rattle.strat_cursor.specs.Contenders.{keyed, contenders, head_in}
use Rattle.strat_cursor.specs.Sources.{first_at_source}
use Rattle.strat_cursor.specs.declared.scan_buffers.SourcePosition.{SourcePosition}
use Rattle.strat_cursor.specs.declared.sources.Source.{Source}

pub get_here : {X : Type 0} (xs : List X) (i : ℕ) (x : X) → i < length xs → x ≡ get_or xs i x → slice_get xs i ≡ Some x
get_here [] i x low is = absurd (omega arith)
get_here (y ∷ ys) zero x low is = ap (λ z. Some z) (sym is)
get_here (y ∷ ys) (suc i) x low is = get_here ys i x (omega arith) is

pub count_contenders : (pool : List PoolEntry) (sources : List Source) (positions : List SourcePosition) → length positions ≡ length sources → length (contenders pool sources positions) ≡ length sources
count_contenders pool [] positions same = refl
count_contenders pool (s ∷ sources) [] same = absurd (omega (arith, same))
count_contenders pool (s ∷ sources) (d ∷ positions) same = let rest = count_contenders pool sources positions (omega (arith, same)) in omega (arith, rest)

-- the first of a contender is the key of its first entry
pub contender_at : (pool : List PoolEntry) (sources : List Source) (positions : List SourcePosition) (i : ℕ) → head_at (contenders pool sources positions) i ≡ option_map keyed (head_in pool sources positions i)
contender_at pool [] positions i = refl
contender_at pool (s ∷ sources) [] zero = refl
contender_at pool (s ∷ sources) [] (suc i) = go (slice_get sources i)
  where
    go : (o : Option Source) → None ≡ option_map keyed (option_and_then (λ t. None) o)
    go None = refl
    go (Some t) = refl
contender_at pool (s ∷ sources) (d ∷ positions) zero = refl
contender_at pool (s ∷ sources) (d ∷ positions) (suc i) = contender_at pool sources positions i

-- the source of another number has what it had
pub contender_other : (pool : List PoolEntry) (sources : List Source) (positions : List SourcePosition) (w i : ℕ) (d : SourcePosition) → i ≢ w → head_in pool sources (set positions w d) i ≡ head_in pool sources positions i
contender_other pool sources positions w i d apart = ap (λ (o : Option SourcePosition). option_and_then (λ s. option_and_then (λ x. first_at_source pool s x) o) (slice_get sources i)) (other positions w i apart)
  where
    other : (ds : List SourcePosition) (n k : ℕ) → k ≢ n → slice_get (set ds n d) k ≡ slice_get ds k
    other [] n k off = refl
    other (x ∷ xs) zero zero off = absurd (off refl)
    other (x ∷ xs) zero (suc k) off = refl
    other (x ∷ xs) (suc n) zero off = refl
    other (x ∷ xs) (suc n) (suc k) off = other xs n k (λ e. off (ap (λ m. suc m) e))

-- keys are compared, and then numbers
pub keyed_ahead : (e f : Entry) (a b : ℕ) → is_ahead (Some (keyed e)) a (Some (keyed f)) b ≡ is_lt (ordering_then (key_cmp e.key f.key) (nat_cmp a b))
keyed_ahead e f a b = go (key_cmp e.key f.key)
  where
    go : (o : Ordering) → is_lt (ordering_then (ordering_then o (nat_cmp 0 0)) (nat_cmp a b)) ≡ is_lt (ordering_then o (nat_cmp a b))
    go Less = refl
    go Equal = refl
    go Greater = refl

keyed_none : (o : Option Entry) → option_map keyed o ≡ None → o ≡ None
keyed_none None is = refl
keyed_none (Some e) is = absurd (cc)

keyed_there : (o : Option Entry) → is_some (option_map keyed o) ≡ true → is_some o ≡ true
keyed_there None is = is
keyed_there (Some e) is = refl

-- no source is ahead of the one of a number
abbrev pub LeadsAll : List PoolEntry → List Source → List SourcePosition → ℕ → Type 0
LeadsAll pool sources positions w = (i : ℕ)
    → is_ahead (option_map keyed (head_in pool sources positions i)) i
    (option_map keyed (head_in pool sources positions w)) w ≡ false

-- no source has an entry left
abbrev pub NoneAhead : List PoolEntry → List Source → List SourcePosition → Type 0
NoneAhead pool sources positions = (i : ℕ) → head_in pool sources positions i ≡ None

-- what a tournament says of contenders, of their sources
module _ (pool : List PoolEntry) (sources : List Source) (positions : List SourcePosition) where
  pub leads_all : (w : ℕ) → ((i : ℕ) → is_ahead (head_at (contenders pool sources positions) i) i (head_at (contenders pool sources positions) w) w ≡ false) → LeadsAll pool sources positions w
  leads_all w leads = λ i. (λ j. is_ahead (sym (contender_at pool sources positions i) j) i (sym (contender_at pool sources positions w) j) w) ∙ leads i

  pub none_ahead : ((i : ℕ) → head_at (contenders pool sources positions) i ≡ None) → NoneAhead pool sources positions
  none_ahead none = λ i. keyed_none (head_in pool sources positions i) (sym (contender_at pool sources positions i) ∙ none i)

  pub head_there : (w : ℕ) → IsSome (head_at (contenders pool sources positions) w) → IsSome (head_in pool sources positions w)
  head_there w some = keyed_there (head_in pool sources positions w) (ap is_some (sym (contender_at pool sources positions w)) ∙ some)

  pub low : length positions ≡ length sources → (w : ℕ) → w < length (contenders pool sources positions) → w < length sources
  low same w within = let count = count_contenders pool sources positions same in omega (arith, count, within)

  pub contenders_bracket : (winners : List ℕ) → length positions ≡ length sources → IsBracket (length sources) winners → IsBracket (length (contenders pool sources positions)) winners
  contenders_bracket winners same bracket = subst (λ n. IsBracket n winners) (sym (count_contenders pool sources positions same)) bracket

module _ (pool : List PoolEntry) (sources : List Source) (positions : List SourcePosition) (winners : List ℕ) (same : length positions ≡ length sources) (won : IsTournament (contenders pool sources positions) winners) where
  pub won_bracket : IsBracket (length sources) winners
  won_bracket = subst (λ n. IsBracket n winners) (count_contenders pool sources positions same) won.bracket

  -- after one source went on, all nodes are played but those above its leaf
  pub beside_source : (w : ℕ) (d : SourcePosition) → PlayedBeside (contenders pool sources (set positions w d)) winners ((length sources + w) / 2)
  beside_source w d =
      let count = count_contenders pool sources positions same in
      let others = count_contenders pool sources (set positions w d) (length-set positions w d ∙ same) in
      subst (λ n. PlayedBeside (contenders pool sources (set positions w d)) winners ((n + w) / 2)) count
      (beside_leaf (contenders pool sources positions) winners won (contenders pool sources (set positions w d)) w (others ∙ sym count) (λ i apart.
      contender_at pool sources (set positions w d) i ∙ ap (option_map keyed) (contender_other pool sources positions w i d apart) ∙ sym (contender_at pool sources positions i)))
