-- What a block is, by its parts.
use Rattle.std.proofs.Common.{◌≡◌, ◌<◌, ◌≤◌, ◌+◌, ◌-◌, ◌*◌, ◌≢◌, ℕ, zero, suc, Bool, true, false, eqb, leb, ltb, ◌&&◌, inl, inr, List, [], ◌∷◌, ◌++◌, length, take, drop, get_or, replicate, Option, Some, None, IsSome, refl, sym, ap, ◌∙◌, subst, arith, length-append, length-drop, take-append-drop, append_assoc, is_some, unwrap_or}
use Rattle.std.specs.List.{list_all, flat_map}
use Rattle.std.specs.Option.{option_map}
use Rattle.std.proofs.lemmas.Bool.{eqb-true, leb-true, le-leb, lt-ltb, ltb-true, and_parts, and_from, cond-true}
use Rattle.std.proofs.lemmas.List.{drop_at, drop-drop}
use Rattle.strat_base.specs.Numbers.{be, number, number_at, AreBytes}
use Rattle.strat_base.specs.Entries.{Entry, is_ascending}
use Rattle.strat_base.specs.EntryBytes.{fits_fields, entry_bytes, entry_in, entry_at, BeginsWithEntry}
use Rattle.strat_base.proofs.NumberLemmas.{length-be, number-be, be-number_2, number_at_some}
use Rattle.strat_base.proofs.EntryBytesLemmas.{entry_in-bytes}
use Rattle.strat_base.proofs.ResultFacts.{option_cases}
use Rattle.strat_base.proofs.PlacedLemmas.{rest_of}
use Rattle.def_bytes.specs.Block.{offsets, block_front, block_bytes, fits_block, IsBlock, block_in}
use Rattle.def_bytes.proofs.BlockLemmas.{length-offsets, block_in-some, block_in-bytes, length-block_bytes}
use Rattle.strat_block.specs.Links.{chain_end, are_zeros}
use Rattle.strat_block.specs.Places.{entries_of_block}
use Rattle.strat_block.proofs.OrderLemmas.{linked_ascending, ascending_linked}
use Rattle.strat_block.proofs.OffsetLemmas.{offset_there, entry_there, front_at}
use Rattle.strat_block.proofs.ChainLemmas.{chain_says, chain_found}

zeros_are : (bytes : List ℕ) → are_zeros bytes ≡ true → bytes ≡ replicate (length bytes) 0
zeros_are [] h = refl
zeros_are (b ∷ bytes) h =
    let both = and_parts (eqb b 0) (are_zeros bytes) h in
    λ i. eqb-true b 0 both.0 i ∷ zeros_are bytes both.1 i

are_zeros-replicate : (n : ℕ) → are_zeros (replicate n 0) ≡ true
are_zeros-replicate zero = refl
are_zeros-replicate (suc n) = are_zeros-replicate n

-- these entries stand in these bytes as in a block
pub record StandsAs (bytes : List ℕ) (entries : List Entry) : Type 0 where
  pub len : length bytes ≡ 4096
  pub count : number 2 bytes ≡ length entries
  pub some : 0 < length entries
  pub lawful : list_all fits_fields entries ≡ true
  pub up : is_ascending entries ≡ true
  pub room : 2 + 2 * length entries + length (flat_map entry_bytes entries) ≤ 4096
  pub rest : List ℕ
  pub table : drop 2 bytes ≡ offsets (2 + 2 * length entries) entries ++ rest
  pub fill : ℕ
  pub text : drop (2 + 2 * length entries) bytes ≡ flat_map entry_bytes entries ++ replicate fill 0

module _ (entries : List Entry) where
  pub length-front : length (block_front entries) ≡ 2 + 2 * length entries + length (flat_map entry_bytes entries)
  length-front =
      let n : ℕ = length entries in
      let table : List ℕ = offsets (2 + 2 * n) entries in
      omega (arith, length-append (be 2 n) (table ++ flat_map entry_bytes entries), length-be 2 n, length-append table (flat_map entry_bytes entries), length-offsets (2 + 2 * n) entries)

  pub fits_from : 0 < length entries → list_all fits_fields entries ≡ true → is_ascending entries ≡ true → 2 + 2 * length entries + length (flat_map entry_bytes entries) ≤ 4096 → fits_block entries ≡ true
  fits_from some lawful up room =
      and_from (ltb 0 (length entries) && list_all fits_fields entries && is_ascending entries) (leb (length (block_front entries)) 4096)
      (and_from (ltb 0 (length entries) && list_all fits_fields entries) (is_ascending entries)
      (and_from (ltb 0 (length entries)) (list_all fits_fields entries) (lt-ltb 0 (length entries) some) lawful) up)
      (le-leb (length (block_front entries)) 4096 (omega (arith, length-front)))

module _ (bytes : List ℕ) (entries : List Entry) where
  pub block_stands : IsBlock bytes entries → StandsAs bytes entries
  unfolding block_bytes
  block_stands block =
      let n : ℕ = length entries in
      let front : List ℕ = block_front entries in
      let zeros : List ℕ = replicate (4096 - length front) 0 in
      let table : List ℕ = offsets (2 + 2 * n) entries in
      let flat : List ℕ = flat_map entry_bytes entries in
      let all' = and_parts (ltb 0 n && list_all fits_fields entries && is_ascending entries) (leb (length front) 4096) block.fits in
      let most = and_parts (ltb 0 n && list_all fits_fields entries) (is_ascending entries) all'.0 in
      let first = and_parts (ltb 0 n) (list_all fits_fields entries) most.0 in
      let short : length front ≤ 4096 = leb-true (length front) 4096 all'.1 in
      let room' : 2 + 2 * n + length flat ≤ 4096 = omega (arith, length-front entries) in
      let text' : bytes ≡ be 2 n ++ (table ++ (flat ++ zeros)) = block.text ∙ append_assoc (be 2 n) (table ++ flat) zeros ∙ ap (λ (z : List ℕ). be 2 n ++ z) (append_assoc table flat zeros) in
      let behind : drop 2 bytes ≡ table ++ (flat ++ zeros) = ap (drop 2) text' ∙ drop_at (be 2 n) (table ++ (flat ++ zeros)) 2 (length-be 2 n) in
      record {
        len = ap length block.text ∙ length-block_bytes bytes entries block.fits;
        count = ap (number 2) text' ∙ number-be 2 n (table ++ (flat ++ zeros)) (omega arith);
        some = ltb-true 0 n first.0;
        lawful = first.1;
        up = most.1;
        room = room';
        rest = flat ++ zeros;
        table = behind;
        fill = 4096 - length front;
        text = sym (drop-drop (2 * n) 2 bytes) ∙ ap (drop (2 * n)) behind ∙ drop_at table (flat ++ zeros) (2 * n) (length-offsets (2 + 2 * n) entries);
      }

  pub block_stands-in : block_in bytes ≡ Some entries → StandsAs bytes entries
  block_stands-in is = block_stands (block_in-some bytes entries is)

-- what stands in a block is read
module _ (bytes : List ℕ) (entries : List Entry) (stands : StandsAs bytes entries) where
  pub chain_there : chain_end bytes (length entries) 0 (2 + 2 * length entries) None ≡ Some (2 + 2 * length entries + length (flat_map entry_bytes entries))
  chain_there =
      chain_found bytes entries 0 (2 + 2 * length entries) None stands.rest (replicate stands.fill 0) stands.lawful (ascending_linked entries stands.up) stands.table stands.text
      (let r = stands.room in omega arith)

  pub zeros_there : are_zeros (drop (2 + 2 * length entries + length (flat_map entry_bytes entries)) bytes) ≡ true
  zeros_there =
      let flat : List ℕ = flat_map entry_bytes entries in
      ap are_zeros (sym (drop-drop (length flat) (2 + 2 * length entries) bytes) ∙ ap (drop (length flat)) stands.text ∙ drop_at flat (replicate stands.fill 0) (length flat) refl)
      ∙ are_zeros-replicate stands.fill

-- bytes that were refused are no block
module _ (bytes : List ℕ) where
  refused : ((entries : List Entry) → StandsAs bytes entries → ⊥) → is_some (block_in bytes) ≡ false
  refused never =
      elim (option_cases (block_in bytes)) [
        | inl none ↦ ap is_some none
        | inr found ↦ absurd (never found.0 (block_stands-in bytes found.0 found.1))
      ]

  pub wrong_length : length bytes ≢ 4096 → is_some (block_in bytes) ≡ false
  wrong_length other = refused (λ entries stands. other stands.len)

  pub no_entries : number 2 bytes ≡ 0 → is_some (block_in bytes) ≡ false
  no_entries none = refused (λ entries stands. let s = stands.some in let c = stands.count in omega arith)

  pub no_room : 4096 < 2 + 2 * number 2 bytes → is_some (block_in bytes) ≡ false
  no_room long = refused (λ entries stands. let r = stands.room in let c = stands.count in omega arith)

  pub no_chain : (n : ℕ) → n ≡ number 2 bytes → chain_end bytes n 0 (2 + 2 * n) None ≡ None → is_some (block_in bytes) ≡ false
  no_chain n count none =
      refused
      (λ entries stands.
      let e : chain_end bytes n 0 (2 + 2 * n) None ≡ Some (2 + 2 * length entries + length (flat_map entry_bytes entries)) = ap (λ (k : ℕ). chain_end bytes k 0 (2 + 2 * k) None) (count ∙ stands.count) ∙ chain_there bytes entries stands in
      cc)

  pub no_zeros : (n last : ℕ) → n ≡ number 2 bytes → chain_end bytes n 0 (2 + 2 * n) None ≡ Some last → are_zeros (drop last bytes) ≡ false → is_some (block_in bytes) ≡ false
  no_zeros n last count chain other =
      refused
      (λ entries stands.
      let e : chain_end bytes n 0 (2 + 2 * n) None ≡ Some (2 + 2 * length entries + length (flat_map entry_bytes entries)) = ap (λ (k : ℕ). chain_end bytes k 0 (2 + 2 * k) None) (count ∙ stands.count) ∙ chain_there bytes entries stands in
      let same : last ≡ 2 + 2 * length entries + length (flat_map entry_bytes entries) = cc in
      let f : are_zeros (drop last bytes) ≡ true = ap (λ (k : ℕ). are_zeros (drop k bytes)) same ∙ zeros_there bytes entries stands in
      let g : true ≡ false = sym f ∙ other in
      cc)

-- bytes that were read as a block, and are one
module _ (bytes : List ℕ) (fit : AreBytes bytes) (n last : ℕ) where
  pub block_read : length bytes ≡ 4096 → n ≡ number 2 bytes → 0 < n → 2 + 2 * n ≤ 4096
      → chain_end bytes n 0 (2 + 2 * n) None ≡ Some last → last ≤ length bytes → are_zeros (drop last bytes) ≡ true
      → is_some (block_in bytes) ≡ true
  unfolding block_bytes
  block_read len count some room chain within zeros =
      let says = chain_says bytes fit n 0 (2 + 2 * n) None last (omega arith) chain in
      let entries : List Entry = says.entries in
      let m : ℕ = length entries in
      let flat : List ℕ = flat_map entry_bytes entries in
      let table : List ℕ = offsets (2 + 2 * n) entries in
      let front : List ℕ = block_front entries in
      let same : n ≡ m = sym says.count in
      let room' : 2 + 2 * m + length flat ≤ 4096 = omega (arith, says.end, says.count) in
      let front_is : be 2 n ++ (table ++ flat) ≡ front = λ i. be 2 (same i) ++ (offsets (2 + 2 * same i) entries ++ flat) in
      let filled : drop last bytes ≡ replicate (4096 - length front) 0 = zeros_are (drop last bytes) zeros ∙ ap (λ (k : ℕ). replicate k 0) (omega (arith, length-drop last bytes, length-front entries, says.end, says.count)) in
      let text' : bytes ≡ block_bytes entries =
      sym (take-append-drop 2 bytes)
      ∙ ap (λ (z : List ℕ). z ++ drop 2 bytes) (sym (be-number_2 bytes (omega arith) fit) ∙ ap (be 2) (sym count))
      ∙ ap (λ (z : List ℕ). be 2 n ++ z) (says.table ∙ ap (λ (k : ℕ). table ++ drop k bytes) (omega arith) ∙ ap (λ (z : List ℕ). table ++ z) says.text ∙ sym (append_assoc table flat (drop last bytes)))
      ∙ sym (append_assoc (be 2 n) (table ++ flat) (drop last bytes))
      ∙ ap (λ (z : List ℕ). z ++ drop last bytes) front_is
      ∙ ap (λ (z : List ℕ). front ++ z) filled in
      let block : IsBlock bytes entries = record { fits = fits_from entries (omega (arith, says.count)) says.lawful (linked_ascending entries says.linked) room'; text = text' } in
      ap is_some (block_in-bytes bytes entries block)

  -- the last test, of the bytes behind the entries
  pub judged : length bytes ≡ 4096 → n ≡ number 2 bytes → 0 < n → 2 + 2 * n ≤ 4096
      → chain_end bytes n 0 (2 + 2 * n) None ≡ Some last → last ≤ length bytes
      → are_zeros (take (length bytes - last) (drop last bytes)) ≡ is_some (block_in bytes)
  judged len count some room chain within = ap are_zeros (rest_of bytes last) ∙ go (are_zeros (drop last bytes)) refl
    where
      go : (b : Bool) → are_zeros (drop last bytes) ≡ b → b ≡ is_some (block_in bytes)
      go true is = sym (block_read len count some room chain within is)
      go false is = sym (no_zeros bytes n last count chain is)

-- a block is that of its entries
pub held : (bytes : List ℕ) → IsSome (block_in bytes) → block_in bytes ≡ Some (entries_of_block bytes)
held bytes some = go (block_in bytes) some
  where
    go : (o : Option (List Entry)) → IsSome o → o ≡ Some (unwrap_or o [])
    go None h = absurd (let f : false ≡ true = h in cc)
    go (Some x) h = refl

pub held_stands : (bytes : List ℕ) → IsSome (block_in bytes) → StandsAs bytes (entries_of_block bytes)
held_stands bytes some = block_stands-in bytes (entries_of_block bytes) (held bytes some)

-- an entry stands at its offset
module _ (bytes : List ℕ) (some : IsSome (block_in bytes)) (i : ℕ) (within : i < length (entries_of_block bytes)) where
  pub offset_within : 2 + 2 * i + 2 ≤ 4096
  offset_within =
      let s = held_stands bytes some in
      let r = s.room in
      omega arith

  pub entry_stands : (d : Entry) → BeginsWithEntry (drop (number 2 (drop (2 + 2 * i) bytes)) bytes) (get_or (entries_of_block bytes) i d)
  entry_stands d =
      let s = held_stands bytes some in
      let entries : List Entry = entries_of_block bytes in
      let n : ℕ = length entries in
      let flat : List ℕ = flat_map entry_bytes entries in
      let front : List ℕ = front_at entries i d within in
      let table : drop (2 + 2 * i) bytes ≡ drop (2 * i) (offsets (2 + 2 * n) entries ++ s.rest) = sym (drop-drop (2 * i) 2 bytes) ∙ ap (drop (2 * i)) s.table in
      let place : number 2 (drop (2 + 2 * i) bytes) ≡ 2 + 2 * n + length front = ap (number 2) table ∙ offset_there entries i d within (2 + 2 * n) s.rest (let r = s.room in omega arith) in
      let there : drop (number 2 (drop (2 + 2 * i) bytes)) bytes ≡ drop (length front) (flat ++ replicate s.fill 0) =
      ap (λ (k : ℕ). drop k bytes) place ∙ sym (drop-drop (length front) (2 + 2 * n) bytes) ∙ ap (drop (length front)) s.text in
      subst (λ (z : List ℕ). BeginsWithEntry z (get_or entries i d)) (sym there) (entry_there entries i d within (replicate s.fill 0) s.lawful)

-- two bytes that are there
pub number_there : (bytes : List ℕ) (at : ℕ) → at + 2 ≤ length bytes → number_at 2 bytes at ≡ Some (number 2 (drop at bytes))
number_there bytes at le = cond-true (leb (at + 2) (length bytes)) (Some (number 2 (drop at bytes))) None (le-leb (at + 2) (length bytes) le)

-- the entry at a place is read
module _ (bytes : List ℕ) (some : IsSome (block_in bytes)) (i : ℕ) (within : i < length (entries_of_block bytes)) (at : ℕ) (there : Some at ≡ number_at 2 bytes (2 + 2 * i)) where
  pub begins_there : (d : Entry) → BeginsWithEntry (drop at bytes) (get_or (entries_of_block bytes) i d)
  begins_there d =
      let e : number 2 (drop (2 + 2 * i) bytes) ≡ at = sym (number_at_some 2 bytes (2 + 2 * i) at there).1 in
      subst (λ (k : ℕ). BeginsWithEntry (drop k bytes) (get_or (entries_of_block bytes) i d)) e (entry_stands bytes some i within d)

  pub read_there : (d x : Entry) (next : ℕ) → entry_at bytes at ≡ Some (x, next) → x ≡ get_or (entries_of_block bytes) i d
  read_there d x next is =
      let e : Entry = get_or (entries_of_block bytes) i d in
      let begins = begins_there d in
      let f : entry_in (drop at bytes) ≡ Some e = ap entry_in begins.split ∙ entry_in-bytes e begins.rest begins.lawful in
      let g : entry_at bytes at ≡ Some (e, at + length (entry_bytes e)) = ap (λ (o : Option Entry). option_map (λ y. (y, at + length (entry_bytes y))) o) f in
      let h : (x, next) ≡ (e, at + length (entry_bytes e)) = cc in
      ap (λ (p : Entry × ℕ). p.0) h

pub fits_there : (bytes : List ℕ) → IsSome (block_in bytes) → fits_block (entries_of_block bytes) ≡ true
fits_there bytes some = (block_in-some bytes (entries_of_block bytes) (held bytes some)).fits
