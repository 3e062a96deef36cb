-- The cursors of a table, as open ones are started, read and closed.
use Rattle.std.proofs.Common.{◌≡◌, ℕ, suc, Bool, true, false, not, cond, eqb, ◌||◌, inl, inr, List, [], ◌∷◌, ◌++◌, Option, Some, None, length, drop, refl, sym, ap, ◌∙◌, subst, true≢false}
use Rattle.std.specs.List.{Contains, filter, find, list_any}
use Rattle.std.specs.Option.{option_map_or}
use Rattle.std.proofs.lemmas.Bool.{eqb-true}
use Rattle.strat_base.proofs.ListFacts.{Among}
use Rattle.strat_base.specs.Tree.{Parents}
use Rattle.def_crash.specs.Image.{Image}
use Rattle.strat_model.specs.Pairs.{Pairs, range}
use Rattle.strat_model.specs.Step.{advanced, next_pairs, page, refuses}
use Rattle.strat_model.specs.Answer.{Answer}
use Rattle.strat_model.specs.Table.{Cursor, Table}
use Rattle.strat_model.specs.declared.replies.Reply.TheVariants as reply
use Rattle.strat_model.specs.declared.replies.Refusal.TheVariants as why
use Rattle.strat_cursor.specs.Cursors.{TellsNext, is_opened, moved_at, moved_on, range_left, without_cursor}
use Rattle.strat_cursor.specs.Held.{HeldCursor, IsMapHeld, IsRowOf, AreRowsOf}
use Rattle.strat_cursor.proofs.PinLemmas.{among_contained}

module _ (f : Image) (parents : Parents) where
  pub rows_length : (cursors : List HeldCursor) (rows : List Cursor) → AreRowsOf f parents cursors rows → length rows ≡ length cursors
  rows_length [] [] are = refl
  rows_length [] (row ∷ rows) are = absurd are
  rows_length (c ∷ cursors) [] are = absurd are
  rows_length (c ∷ cursors) (row ∷ rows) are = ap suc (rows_length cursors rows are.1)

  number_same : (c : HeldCursor) (row : Cursor) → IsRowOf f parents c row → row.number ≡ c.number
  number_same c row is = ap (λ (r : Cursor). r.number) is.row_is

  pub rows_opened : (n : ℕ) (cursors : List HeldCursor) (rows : List Cursor) → AreRowsOf f parents cursors rows
      → list_any {X = Cursor} (λ row. eqb row.number n) rows ≡ is_opened n cursors
  rows_opened n [] [] are = refl
  rows_opened n [] (row ∷ rows) are = absurd are
  rows_opened n (c ∷ cursors) [] are = absurd are
  rows_opened n (c ∷ cursors) (row ∷ rows) are = λ i. eqb (number_same c row are.0 i) n || rows_opened n cursors rows are.1 i

  pub rows_more : (cursors : List HeldCursor) (rows : List Cursor) (c : HeldCursor) (row : Cursor) → AreRowsOf f parents cursors rows
      → IsRowOf f parents c row → AreRowsOf f parents (cursors ++ c ∷ []) (rows ++ row ∷ [])
  rows_more [] [] c row are is = (is, tt)
  rows_more [] (r ∷ rows) c row are is = absurd are
  rows_more (d ∷ cursors) [] c row are is = absurd are
  rows_more (d ∷ cursors) (r ∷ rows) c row are is = (are.0, rows_more cursors rows c row are.1 is)

  pub rows_less : (n : ℕ) (cursors : List HeldCursor) (rows : List Cursor) → AreRowsOf f parents cursors rows
      → AreRowsOf f parents (without_cursor n cursors) (filter {X = Cursor} (λ row. not (eqb row.number n)) rows)
  rows_less n [] [] are = tt
  rows_less n [] (row ∷ rows) are = absurd are
  rows_less n (c ∷ cursors) [] are = absurd are
  rows_less n (c ∷ cursors) (row ∷ rows) are =
      subst (λ b. AreRowsOf f parents (without_cursor n (c ∷ cursors)) (cond (not b) (row ∷ filter {X = Cursor} (λ r. not (eqb r.number n)) rows) (filter {X = Cursor} (λ r. not (eqb r.number n)) rows)))
      (λ i. eqb (sym (number_same c row are.0) i) n) (by (not (eqb c.number n)) (rows_less n cursors rows are.1))
    where
      by : (b : Bool) → AreRowsOf f parents (without_cursor n cursors) (filter {X = Cursor} (λ r. not (eqb r.number n)) rows)
          → AreRowsOf f parents (cond b (c ∷ without_cursor n cursors) (without_cursor n cursors)) (cond b (row ∷ filter {X = Cursor} (λ r. not (eqb r.number n)) rows) (filter {X = Cursor} (λ r. not (eqb r.number n)) rows))
      by true rest = (are.0, rest)
      by false rest = rest

  module _ (n limit : ℕ) (told : Pairs) (more : Bool) where
    row_moved : (c : HeldCursor) (row : Cursor) → IsRowOf f parents c row
        → (c.number ≡ n → (m : Pairs) → IsMapHeld f parents c m → TellsNext m c limit told more)
        → IsRowOf f parents (cond (eqb c.number n) (moved_on more told c) c) (cond (eqb row.number n) (record row { left = drop limit row.left }) row)
    row_moved c row is tells =
        subst (λ b. IsRowOf f parents (cond (eqb c.number n) (moved_on more told c) c) (cond b (record row { left = drop limit row.left }) row))
        (λ i. eqb (sym (number_same c row is) i) n) (by (eqb c.number n) refl)
      where
        by : (b : Bool) → eqb c.number n ≡ b → IsRowOf f parents (cond b (moved_on more told c) c) (cond b (record row { left = drop limit row.left }) row)
        by false off = is
        by true on =
            let next = tells (eqb-true c.number n on) is.pairs is.reads in
            record {
              pairs = is.pairs;
              reads = record { ordered = is.reads.ordered; each = is.reads.each };
              row_is = (λ i. record { number = (is.row_is i).number; left = drop limit (is.row_is i).left }) ∙ (λ i. record { number = c.number; left = sym next.left i });
            }

    pub rows_moved : (cursors : List HeldCursor) (rows : List Cursor)
        → ((c : HeldCursor) → Among c cursors → c.number ≡ n → (m : Pairs) → IsMapHeld f parents c m → TellsNext m c limit told more)
        → AreRowsOf f parents cursors rows → AreRowsOf f parents (moved_at n more told cursors) (advanced rows n limit)
    rows_moved [] [] tells are = tt
    rows_moved [] (row ∷ rows) tells are = absurd are
    rows_moved (c ∷ cursors) [] tells are = absurd are
    rows_moved (c ∷ cursors) (row ∷ rows) tells are = (
      row_moved c row are.0 (tells c (inl refl)),
      rows_moved cursors rows (λ d among. tells d (inr among)) are.1,
    )

    -- the table's cursor of the number, and its page
    pub row_told : (cursors : List HeldCursor) (rows : List Cursor)
        → ((c : HeldCursor) → Among c cursors → c.number ≡ n → (m : Pairs) → IsMapHeld f parents c m → TellsNext m c limit told more)
        → AreRowsOf f parents cursors rows → is_opened n cursors ≡ true
        → (row : Cursor) × (find {X = Cursor} (λ r. eqb r.number n) rows ≡ Some row) × (page row.left limit ≡ record { reply = reply.Pairs more; pairs = told })
    row_told [] [] tells are is = absurd (true≢false (sym is))
    row_told [] (row ∷ rows) tells are is = absurd are
    row_told (c ∷ cursors) [] tells are is = absurd are
    row_told (c ∷ cursors) (row ∷ rows) tells are is =
        by (eqb c.number n) refl (row_told cursors rows (λ d among. tells d (inr among)) are.1)
      where
        Told : Option Cursor → Type 0
        Told o = (r : Cursor) × (o ≡ Some r) × (page r.left limit ≡ record { reply = reply.Pairs more; pairs = told })

        by : (b : Bool) → eqb c.number n ≡ b → (is_opened n cursors ≡ true → Told (find {X = Cursor} (λ r. eqb r.number n) rows)) → Told (find {X = Cursor} (λ r. eqb r.number n) (row ∷ rows))
        by true on rest =
            let next = tells c (inl refl) (eqb-true c.number n on) are.0.pairs are.0.reads in (
              row,
              ap (λ t. cond t (Some row) (find {X = Cursor} (λ r. eqb r.number n) rows)) ((λ i. eqb (number_same c row are.0 i) n) ∙ on),
              ap (λ (r : Cursor). page r.left limit) are.0.row_is ∙ (λ i. record { reply = reply.Pairs (sym next.page.more_is i); pairs = sym next.page.pairs_are i }),
            )
        by false off rest =
            let later = rest (ap (λ b. b || is_opened n cursors) (sym off) ∙ is) in (
              later.0,
              ap (λ t. cond t (Some row) (find {X = Cursor} (λ r. eqb r.number n) rows)) ((λ i. eqb (number_same c row are.0 i) n) ∙ off) ∙ later.1,
              later.2,
            )

-- where no element passes none is found
find_none_of : {X : Type 0} (p : X → Bool) (xs : List X) → list_any p xs ≡ false → find p xs ≡ None
find_none_of p [] none = refl
find_none_of p (x ∷ xs) none = by (find_none_of p xs) (p x) none
  where
    by : (list_any p xs ≡ false → find p xs ≡ None) → (b : Bool) → (b || list_any p xs) ≡ false → cond b (Some x) (find p xs) ≡ None
    by rest true n = absurd (true≢false n)
    by rest false n = rest n

pub table_none : (f : Image) (parents : Parents) (cursors : List HeldCursor) (t : Table) (n limit : ℕ) → AreRowsOf f parents cursors t.cursors
    → is_opened n cursors ≡ false → next_pairs t n limit ≡ refuses t why.UnknownCursor
table_none f parents cursors t n limit are none =
    ap (λ (o : Option Cursor). option_map_or (λ (c : Cursor). record { answer = page c.left limit; table = record t { cursors = advanced t.cursors n limit } }) o (refuses t why.UnknownCursor))
    (find_none_of (λ (r : Cursor). eqb r.number n) t.cursors (rows_opened f parents n cursors t.cursors are ∙ none))

pub table_told : (f : Image) (parents : Parents) (cursors : List HeldCursor) (t : Table) (n limit : ℕ) (told : Pairs) (more : Bool)
    → AreRowsOf f parents cursors t.cursors → is_opened n cursors ≡ true
    → ((c : HeldCursor) → Contains cursors c → c.number ≡ n → (m : Pairs) → IsMapHeld f parents c m → TellsNext m c limit told more)
    → (next_pairs t n limit ≡ record { answer = record { reply = reply.Pairs more; pairs = told }; table = record t { cursors = advanced t.cursors n limit } })
    × AreRowsOf f parents (moved_at n more told cursors) (advanced t.cursors n limit)
table_told f parents cursors t n limit told more are is tells =
    let each : (c : HeldCursor) → Among c cursors → c.number ≡ n → (m : Pairs) → IsMapHeld f parents c m → TellsNext m c limit told more =
    λ c among. tells c (among_contained cursors c among) in
    let row = row_told f parents n limit told more cursors t.cursors each are is in (
      ap (λ (o : Option Cursor). option_map_or (λ (c : Cursor). record { answer = page c.left limit; table = record t { cursors = advanced t.cursors n limit } }) o (refuses t why.UnknownCursor)) row.1
          ∙ ap (λ (a : Answer). record { answer = a; table = record t { cursors = advanced t.cursors n limit } }) row.2,
      rows_moved f parents n limit told more cursors t.cursors each are,
    )

-- a started cursor has its range left
pub table_started : (f : Image) (parents : Parents) (cursors : List HeldCursor) (rows : List Cursor) (c : HeldCursor) (lo : List ℕ) (m : Pairs)
    → AreRowsOf f parents cursors rows → c.from ≡ Some lo → IsMapHeld f parents c m
    → AreRowsOf f parents (cursors ++ c ∷ []) (rows ++ record { number = c.number; left = range m lo c.hi } ∷ [])
table_started f parents cursors rows c lo m are from reads =
    rows_more f parents cursors rows c (record { number = c.number; left = range m lo c.hi }) are
    (record { pairs = m; reads = reads; row_is = λ i. record { number = c.number; left = range_left m (sym from i) c.hi } })
