-- What a writer of a block holds, and what it writes.
use Rattle.std.proofs.Common.{◌≡◌, ◌<◌, ◌≤◌, ◌+◌, ◌*◌, ◌^◌, ℕ, zero, suc, true, leb, ltb, ◌&&◌, List, [], ◌∷◌, ◌++◌, length, take, drop, get_or, replicate, Option, Some, None, refl, sym, ap, ◌∙◌, subst, arith, length-append, length-take, append_assoc, unwrap_or}
use Rattle.std.specs.List.{list_all, flat_map}
use Rattle.std.specs.Option.{option_map, option_and_then}
use Rattle.std.proofs.Math.ListN.{set}
use Rattle.std.proofs.lemmas.Bool.{and_parts, and_from, leb-true}
use Rattle.std.proofs.lemmas.List.{drop_at, take_at, take_more, take_more_set, append-nil, drop-replicate, take-append-drop, length-replicate}
use Rattle.std.proofs.lemmas.List.Folds.{list_all-append}
use Rattle.std.proofs.lemmas.Grind.{flat_map-append}
use Rattle.strat_base.specs.Numbers.{be, placed}
use Rattle.strat_base.specs.Fields.{key_field}
use Rattle.strat_base.specs.Sizes.{is_key}
use Rattle.strat_base.specs.Entries.{Entry, is_ascending}
use Rattle.strat_base.specs.EntryBytes.{fits_fields, entry_bytes, is_markable, mark_field}
use Rattle.strat_base.proofs.NumberLemmas.{length-be}
use Rattle.strat_base.proofs.PlacedLemmas.{placed_next, placed_three}
use Rattle.strat_base.proofs.EntryBytesLemmas.{entry_in-bytes}
use Rattle.def_bytes.specs.Block.{entries_in, offsets, block_front, block_bytes, IsBlock}
use Rattle.def_bytes.proofs.BlockLemmas.{length-offsets}
use Rattle.strat_block.specs.Collected.{Collected, collected, starts_of, shifted}
use Rattle.strat_block.proofs.BlockFacts.{length-front, fits_from}

-- entries that were written are read
entries_again : (entries : List Entry) (rest : List ℕ) → list_all fits_fields entries ≡ true → entries_in (length entries) (flat_map entry_bytes entries ++ rest) ≡ Some entries
unfolding entries_in
entries_again [] rest lawful = refl
entries_again (e ∷ entries) rest lawful =
    let both = and_parts (fits_fields e) (list_all fits_fields entries) lawful in
    let behind : List ℕ = flat_map entry_bytes entries ++ rest in
    ap (entries_in (suc (length entries))) (append_assoc (entry_bytes e) (flat_map entry_bytes entries) rest)
    ∙ ap (λ (o : Option Entry). option_and_then (λ d. option_map (λ x. d ∷ x) (entries_in (length entries) (drop (length (entry_bytes d)) (entry_bytes e ++ behind)))) o) (entry_in-bytes e behind both.0)
    ∙ ap (λ (x : List ℕ). option_map (λ y. e ∷ y) (entries_in (length entries) x)) (drop_at (entry_bytes e) behind (length (entry_bytes e)) refl)
    ∙ ap (λ (o : Option (List Entry)). option_map (λ y. e ∷ y) o) (entries_again entries rest both.1)

-- the shortest entry has seven bytes
pub entry_long : (e : Entry) → fits_fields e ≡ true → 7 ≤ length (entry_bytes e)
entry_long e lawful =
    let outer = and_parts (is_key e.key && ltb e.version (2 ^ 32)) (is_markable e.value) lawful in
    let inner = and_parts (is_key e.key) (ltb e.version (2 ^ 32)) outer.0 in
    let sizes = and_parts (leb 1 (length e.key)) (leb (length e.key) 255) inner.0 in
    omega (arith, leb-true 1 (length e.key) sizes.0, length-append (key_field e.key) (be 4 e.version ++ mark_field e.value), length-append (be 4 e.version) (mark_field e.value), length-be 4 e.version, marked e.value)
  where
    marked : (value : Option (List ℕ)) → 1 ≤ length (mark_field value)
    marked None = omega arith
    marked (Some value) = omega arith

pub entries_long : (entries : List Entry) → list_all fits_fields entries ≡ true → 7 * length entries ≤ length (flat_map entry_bytes entries)
entries_long [] lawful = omega arith
entries_long (e ∷ entries) lawful =
    let both = and_parts (fits_fields e) (list_all fits_fields entries) lawful in
    omega (arith, entry_long e both.0, entries_long entries both.1, length-append (entry_bytes e) (flat_map entry_bytes entries))

starts_of-append : (at : ℕ) (entries : List Entry) (e : Entry) → starts_of at (entries ++ e ∷ []) ≡ starts_of at entries ++ (at + length (flat_map entry_bytes entries)) ∷ []
starts_of-append at [] e = let same : at ≡ at + 0 = omega arith in ap (λ (n : ℕ). n ∷ []) same
starts_of-append at (d ∷ entries) e =
    let next : ℕ = at + length (entry_bytes d) in
    let same : next + length (flat_map entry_bytes entries) ≡ at + length (entry_bytes d ++ flat_map entry_bytes entries) = omega (arith, length-append (entry_bytes d) (flat_map entry_bytes entries)) in
    ap (λ (x : List ℕ). at ∷ x) (starts_of-append next entries e ∙ ap (λ (n : ℕ). starts_of next entries ++ n ∷ []) same)

-- places behind the first are offsets
shifted_starts : (first at : ℕ) (entries : List Entry) → shifted first (starts_of at entries) ≡ offsets (first + at) entries
shifted_starts first at [] = refl
shifted_starts first at (e ∷ entries) =
    let same : first + (at + length (entry_bytes e)) ≡ first + at + length (entry_bytes e) = omega arith in
    ap (λ (x : List ℕ). be 2 (first + at) ++ x) (shifted_starts first (at + length (entry_bytes e)) entries ∙ ap (λ (n : ℕ). offsets n entries) same)

module _ (entries : List Entry) (count used : ℕ) (starts text : List ℕ) (is : Collected entries count used starts text) where
  -- what is held is what the bytes say
  pub collected_is : collected count text ≡ entries
  collected_is =
      let split : text ≡ flat_map entry_bytes entries ++ drop used text = sym (take-append-drop used text) ∙ ap (λ (x : List ℕ). x ++ drop used text) is.bytes in
      ap (λ (o : Option (List Entry)). unwrap_or o [])
      (ap (λ (n : ℕ). entries_in n text) is.len ∙ ap (entries_in (length entries)) split ∙ entries_again entries (drop used text) is.lawful)

  pub collected_self : Collected (collected count text) count used starts text
  collected_self = subst (λ (x : List Entry). Collected x count used starts text) (sym collected_is) is

  pub starts_fit : (i : ℕ) → 2 + 2 * count + get_or (take count starts) i 0 < 65536
  starts_fit i =
      let small = starts_small 0 entries i in
      let same : get_or (take count starts) i 0 ≡ get_or (starts_of 0 entries) i 0 = ap (λ (x : List ℕ). get_or x i 0) is.places in
      omega (arith, is.room, is.size)
    where
      starts_small : (at : ℕ) (es : List Entry) (k : ℕ) → get_or (starts_of at es) k 0 ≤ at + length (flat_map entry_bytes es)
      starts_small at [] k = omega arith
      starts_small at (d ∷ es) zero = omega arith
      starts_small at (d ∷ es) (suc k) = omega (arith, starts_small (at + length (entry_bytes d)) es k, length-append (entry_bytes d) (flat_map entry_bytes es))

  module _ (e : Entry) (lawful : fits_fields e ≡ true) (up : is_ascending (entries ++ e ∷ []) ≡ true) (size : ℕ) (size_is : size ≡ length (entry_bytes e)) where
    more : List Entry
    more = entries ++ e ∷ []

    more_flat : flat_map entry_bytes (entries ++ e ∷ []) ≡ flat_map entry_bytes entries ++ entry_bytes e
    more_flat = flat_map-append entry_bytes entries (e ∷ []) ∙ ap (λ (x : List ℕ). flat_map entry_bytes entries ++ x) (append-nil (entry_bytes e))

    more_long : length (flat_map entry_bytes (entries ++ e ∷ [])) ≡ used + size
    more_long = ap length more_flat ∙ omega (arith, length-append (flat_map entry_bytes entries) (entry_bytes e), is.size)

    pub more_front : length (block_front (entries ++ e ∷ [])) ≡ 4 + 2 * count + used + size
    more_front = length-front (entries ++ e ∷ []) ∙ omega (arith, more_long, length-append entries (e ∷ []), is.len)

    used_is : used ≡ 0 + length (flat_map entry_bytes entries)
    used_is = is.size ∙ omega arith

    pub fewer : 4 + 2 * count + used + size ≤ 4096 → count < 454
    fewer room = omega (arith, is.size, is.len, entries_long entries is.lawful, entry_long e lawful)

    pub collected_more : 4 + 2 * count + used + size ≤ 4096 → length starts ≡ 454 → length text ≡ 4096
        → Collected (entries ++ e ∷ []) (count + 1) (used + size) (set starts count used) (placed text used (entry_bytes e))
    collected_more room many long = record {
      len = omega (arith, is.len, length-append entries (e ∷ []));
      size = sym more_long;
      places =
          take_more_set starts count used (omega (arith, fewer room))
          ∙ ap (λ (x : List ℕ). x ++ used ∷ []) is.places
          ∙ ap (λ (n : ℕ). starts_of 0 entries ++ n ∷ []) used_is
          ∙ sym (starts_of-append 0 entries e);
      bytes =
          take_at (take used text ++ entry_bytes e) (drop (used + length (entry_bytes e)) text) (used + size)
          (omega (arith, length-append (take used text) (entry_bytes e), length-take used text))
          ∙ ap (λ (x : List ℕ). x ++ entry_bytes e) is.bytes
          ∙ sym more_flat;
      lawful = list_all-append fits_fields entries (e ∷ []) ∙ and_from (list_all fits_fields entries) (fits_fields e && true) is.lawful (and_from (fits_fields e) true lawful refl);
      up = up;
      room = omega arith;
      few = omega (arith, fewer room);
    }

    pub written_more : 4 + 2 * count + used + size ≤ 4096 → length starts ≡ 454 → length text ≡ 4096 → (into : List ℕ) → into ≡ placed text used (entry_bytes e)
        → Collected (entries ++ e ∷ []) (count + 1) (used + size) (set starts count used) into
    written_more room many long into written = subst (λ (x : List ℕ). Collected (entries ++ e ∷ []) (count + 1) (used + size) (set starts count used) x) (sym written) (collected_more room many long)

  -- the block as it is put together
  module _ (some : 0 < length entries) where
    pub block_written : (block : List ℕ)
        → block ≡ placed (placed (placed (replicate 4096 0) 0 (be 2 count)) 2 (shifted (2 + 2 * count) (take count starts))) (2 + 2 * count) (take used text)
        → IsBlock block entries
    unfolding block_bytes
    block_written block written =
        let n : ℕ = length entries in
        let table : List ℕ = offsets (2 + 2 * n) entries in
        let flat : List ℕ = flat_map entry_bytes entries in
        let front : List ℕ = block_front entries in
        let nulls : List ℕ = replicate 4096 0 in
        let first_is : 2 + 2 * count ≡ 2 + 2 * n = omega (arith, is.len) in
        let zero_more : 2 + 2 * count + 0 ≡ 2 + 2 * n = omega (arith, is.len) in
        let offsets_are : shifted (2 + 2 * count) (take count starts) ≡ table =
        ap (shifted (2 + 2 * count)) is.places ∙ shifted_starts (2 + 2 * count) 0 entries ∙ ap (λ (k : ℕ). offsets k entries) zero_more in
        let from_zero : 0 + length front ≡ length front = omega arith in
        let three : placed (placed (placed nulls 0 (be 2 n)) 2 table) (2 + 2 * n) flat ≡ placed nulls 0 front =
        placed_three nulls (be 2 n) table flat 0 2 (2 + 2 * n) (omega (arith, length-be 2 n)) (omega (arith, length-offsets (2 + 2 * n) entries)) (omega (arith, is.room, is.len, length-nulls)) in
        record {
          fits = fits_from entries some is.lawful is.up (omega (arith, is.room, is.len, is.size));
          text =
              written
              ∙ (λ i. placed (placed (placed nulls 0 (be 2 (is.len i))) 2 (offsets_are i)) (first_is i) (is.bytes i))
              ∙ three
              ∙ ap (λ (x : List ℕ). front ++ x) (ap (λ (k : ℕ). drop k nulls) from_zero ∙ drop-replicate (length front) 4096 0);
        }
      where
        length-nulls : length {A = ℕ} (replicate 4096 0) ≡ 4096
        length-nulls = length-replicate {A = ℕ} 4096 0

-- a writer that has nothing yet
pub nothing : (starts text : List ℕ) → Collected (collected 0 text) 0 0 starts text
unfolding entries_in
nothing starts text = record { len = refl; size = refl; places = refl; bytes = refl; lawful = refl; up = refl; room = omega arith; few = omega arith }

pub nothing_is : (text : List ℕ) → collected 0 text ≡ []
unfolding entries_in
nothing_is text = refl

length-shifted : (first : ℕ) (starts : List ℕ) → length (shifted first starts) ≡ 2 * length starts
length-shifted first [] = refl
length-shifted first (start ∷ starts) = omega (arith, length-append (be 2 (first + start)) (shifted first starts), length-be 2 (first + start), length-shifted first starts)

-- one more offset
pub offset_put : (old starts : List ℕ) (first i : ℕ) → i < length starts → 2 + 2 * length starts ≤ length old
    → placed (placed old 2 (shifted first (take i starts))) (2 + 2 * i) (be 2 (first + get_or starts i 0)) ≡ placed old 2 (shifted first (take (i + 1) starts))
offset_put old starts first i lt room =
    let done : List ℕ = shifted first (take i starts) in
    let one : List ℕ = be 2 (first + get_or starts i 0) in
    let long : length done ≡ 2 * i = length-shifted first (take i starts) ∙ omega (arith, length-take i starts) in
    let more : done ++ one ≡ shifted first (take (i + 1) starts) =
    ap (λ (x : List ℕ). done ++ x) (sym (append-nil one))
    ∙ sym (flat_map-append (λ start. be 2 (first + start)) (take i starts) (get_or starts i 0 ∷ []))
    ∙ ap (shifted first) (sym (take_more starts i 0 lt)) in
    placed_next old done one 2 (2 + 2 * i) (omega arith) (omega arith) ∙ ap (placed old 2) more
