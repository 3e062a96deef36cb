-- One pass over a block finds exactly its entries.
use Rattle.std.proofs.Common.{◌≡◌, ◌<◌, ◌≤◌, ◌+◌, ◌-◌, ◌*◌, ℕ, zero, suc, Bool, true, false, eqb, leb, inl, inr, List, [], ◌∷◌, ◌++◌, length, take, drop, Option, Some, None, cond, refl, sym, ap, ◌∙◌, subst, arith, length-append, length-drop, take-append-drop, append_assoc}
use Rattle.std.specs.List.{list_all, flat_map}
use Rattle.std.specs.Option.{option_map, option_and_then}
use Rattle.std.proofs.lemmas.Bool.{eqb-true, eq-eqb, le-leb, and_parts, and_from, cond-true}
use Rattle.std.proofs.lemmas.List.{drop_at, drop-drop}
use Rattle.strat_base.specs.Numbers.{be, number, number_at, AreBytes}
use Rattle.strat_base.specs.Entries.{Entry}
use Rattle.strat_base.specs.EntryBytes.{fits_fields, entry_bytes, entry_in, entry_at}
use Rattle.strat_base.proofs.NumberLemmas.{length-be, number-be, number_at_some, be-number_2, AreBytes-drop}
use Rattle.strat_base.proofs.EntryBytesLemmas.{entry_in-some, entry_in-bytes}
use Rattle.strat_base.proofs.ResultFacts.{option_cases}
use Rattle.def_bytes.specs.Block.{offsets}
use Rattle.strat_block.specs.Links.{may_stand_behind, link_after, linked_entry, chain_end}
use Rattle.strat_block.proofs.OrderLemmas.{are_linked}
use Rattle.strat_block.proofs.OffsetLemmas.{begins_within}

cond_found : {X : Type 0} (b : Bool) (o : Option X) (x : X) → cond b o None ≡ Some x → (b ≡ true) × (o ≡ Some x)
cond_found true o x e = (refl, e)
cond_found false o x e = absurd (cc)

after_found : (before : Option Entry) (o : Option (Entry × ℕ)) (x : Entry × ℕ) → link_after before o ≡ Some x → (may_stand_behind before x.0 ≡ true) × (o ≡ Some x)
after_found before None x e = absurd (cc)
after_found before (Some y) x e =
    let found = cond_found (may_stand_behind before y.0) (Some y) x e in
    let same : y ≡ x = cc in
    (subst (λ (z : Entry × ℕ). may_stand_behind before z.0 ≡ true) same found.0, found.1)

-- what one link tells
pub record LinkSays (bytes : List ℕ) (i at : ℕ) (before : Option Entry) (e : Entry) (next : ℕ) : Type 0 where
  pub table : drop (2 + 2 * i) bytes ≡ be 2 at ++ drop (2 + 2 * (i + 1)) bytes
  pub lawful : fits_fields e ≡ true
  pub follows : may_stand_behind before e ≡ true
  pub text : drop at bytes ≡ entry_bytes e ++ drop next bytes
  pub end : next ≡ at + length (entry_bytes e)
  pub within : next ≤ length bytes

module _ (bytes : List ℕ) (fit : AreBytes bytes) where
  offset_says : (i at offset : ℕ) → offset ≡ at → Some offset ≡ number_at 2 bytes (2 + 2 * i) → drop (2 + 2 * i) bytes ≡ be 2 at ++ drop (2 + 2 * (i + 1)) bytes
  offset_says i at offset here is =
      let rest : List ℕ = drop (2 + 2 * i) bytes in
      let numbers = number_at_some 2 bytes (2 + 2 * i) offset is in
      let long : 2 ≤ length rest = omega (arith, length-drop (2 + 2 * i) bytes, numbers.0) in
      let front : take 2 rest ≡ be 2 at = sym (be-number_2 rest long (AreBytes-drop (2 + 2 * i) bytes fit)) ∙ ap (be 2) (sym numbers.1 ∙ here) in
      let next : 2 + 2 * i + 2 ≡ 2 + 2 * (i + 1) = omega arith in
      sym (take-append-drop 2 rest)
      ∙ ap (λ (z : List ℕ). z ++ drop 2 rest) front
      ∙ ap (λ (z : List ℕ). be 2 at ++ z) (drop-drop 2 (2 + 2 * i) bytes ∙ ap (λ (n : ℕ). drop n bytes) next)

  link_says : (i at : ℕ) (before : Option Entry) (x : Entry × ℕ) → at ≤ length bytes → linked_entry bytes i at before ≡ Some x → LinkSays bytes i at before x.0 x.1
  link_says i at before x le is =
      elim (option_cases (number_at 2 bytes (2 + 2 * i))) [
        | inl none ↦ absurd (let e = ap (λ (o : Option ℕ). option_and_then (λ offset. cond (eqb offset at) (link_after before (entry_at bytes at)) None) o) (sym none) ∙ is in cc)
        | inr offset ↦
            let e = ap (λ (o : Option ℕ). option_and_then (λ offset. cond (eqb offset at) (link_after before (entry_at bytes at)) None) o) (sym offset.1) ∙ is in
            let tests = cond_found (eqb offset.0 at) (link_after before (entry_at bytes at)) x e in
            let here : offset.0 ≡ at = eqb-true offset.0 at tests.0 in
            let table_is = offset_says i at offset.0 here (sym offset.1) in
            let found = after_found before (entry_at bytes at) x tests.1 in
            elim (option_cases (entry_in (drop at bytes))) [
              | inl none ↦ absurd (let f = ap (λ (o : Option Entry). option_map (λ e. (e, at + length (entry_bytes e))) o) (sym none) ∙ found.1 in cc)
              | inr entry ↦
                  let f = ap (λ (o : Option Entry). option_map (λ e. (e, at + length (entry_bytes e))) o) (sym entry.1) ∙ found.1 in
                  let same : (entry.0, at + length (entry_bytes entry.0)) ≡ x = cc in
                  let begins = entry_in-some (drop at bytes) entry.0 (AreBytes-drop at bytes fit) entry.1 in
                  let next : ℕ = at + length (entry_bytes entry.0) in
                  let rest_is : drop next bytes ≡ begins.rest = sym (drop-drop (length (entry_bytes entry.0)) at bytes) ∙ ap (drop (length (entry_bytes entry.0))) begins.split ∙ drop_at (entry_bytes entry.0) begins.rest (length (entry_bytes entry.0)) refl in
                  subst (λ (z : Entry × ℕ). may_stand_behind before z.0 ≡ true → LinkSays bytes i at before z.0 z.1) same
                  (λ follows. record {
                    table = table_is;
                    lawful = begins.lawful;
                    follows = follows;
                    text = begins.split ∙ ap (λ (z : List ℕ). entry_bytes entry.0 ++ z) (sym rest_is);
                    end = refl;
                    within = begins_within bytes at entry.0 begins le;
                  }) found.0
            ]
      ]

  -- what links tell that hang together
  pub record ChainSays (k i at : ℕ) (before : Option Entry) (last : ℕ) : Type 0 where
    pub entries : List Entry
    pub count : length entries ≡ k
    pub lawful : list_all fits_fields entries ≡ true
    pub linked : are_linked before entries ≡ true
    pub table : drop (2 + 2 * i) bytes ≡ offsets at entries ++ drop (2 + 2 * (i + k)) bytes
    pub text : drop at bytes ≡ flat_map entry_bytes entries ++ drop last bytes
    pub end : last ≡ at + length (flat_map entry_bytes entries)

  pub chain_says : (k i at : ℕ) (before : Option Entry) (last : ℕ) → at ≤ length bytes → chain_end bytes k i at before ≡ Some last → ChainSays k i at before last
  unfolding chain_end
  chain_says zero i at before last le is =
      let same : at ≡ last = cc in
      record {
        entries = [];
        count = refl;
        lawful = refl;
        linked = refl;
        table = ap (λ (n : ℕ). drop n bytes) (omega arith);
        text = ap (λ (n : ℕ). drop n bytes) same;
        end = omega arith;
      }
  chain_says (suc k) i at before last le is =
      elim (option_cases (linked_entry bytes i at before)) [
        | inl none ↦ absurd (let e = ap (λ (o : Option (Entry × ℕ)). option_and_then (λ x. chain_end bytes k (i + 1) x.1 (Some x.0)) o) (sym none) ∙ is in cc)
        | inr link ↦
            let e = ap (λ (o : Option (Entry × ℕ)). option_and_then (λ x. chain_end bytes k (i + 1) x.1 (Some x.0)) o) (sym link.1) ∙ is in
            let x : Entry = link.0.0 in
            let next : ℕ = link.0.1 in
            let first = link_says i at before link.0 le link.1 in
            let rest = chain_says k (i + 1) next (Some x) last first.within e in
            record {
              entries = x ∷ rest.entries;
              count = ap suc rest.count;
              lawful = and_from (fits_fields x) (list_all fits_fields rest.entries) first.lawful rest.lawful;
              linked = and_from (may_stand_behind before x) (are_linked (Some x) rest.entries) first.follows rest.linked;
              table =
                  first.table
                  ∙ ap (λ (z : List ℕ). be 2 at ++ z) (rest.table ∙ ap (λ (n : ℕ). offsets n rest.entries ++ drop (2 + 2 * (i + 1 + k)) bytes) first.end)
                  ∙ sym (append_assoc (be 2 at) (offsets (at + length (entry_bytes x)) rest.entries) (drop (2 + 2 * (i + 1 + k)) bytes))
                  ∙ ap (λ (n : ℕ). (be 2 at ++ offsets (at + length (entry_bytes x)) rest.entries) ++ drop n bytes) (omega arith);
              text = first.text ∙ ap (λ (z : List ℕ). entry_bytes x ++ z) rest.text ∙ sym (append_assoc (entry_bytes x) (flat_map entry_bytes rest.entries) (drop last bytes));
              end = rest.end ∙ omega (arith, first.end, length-append (entry_bytes x) (flat_map entry_bytes rest.entries));
            }
      ]

module _ (bytes : List ℕ) where
  -- entries that stand so are found
  pub chain_found : (entries : List Entry) (i at : ℕ) (before : Option Entry) (t rest : List ℕ)
      → list_all fits_fields entries ≡ true → are_linked before entries ≡ true
      → drop (2 + 2 * i) bytes ≡ offsets at entries ++ t → drop at bytes ≡ flat_map entry_bytes entries ++ rest
      → at + length (flat_map entry_bytes entries) < 65536
      → chain_end bytes (length entries) i at before ≡ Some (at + length (flat_map entry_bytes entries))
  unfolding chain_end
  chain_found [] i at before t rest lawful linked table text small = ap (λ (n : ℕ). Some n) (omega arith)
  chain_found (e ∷ entries) i at before t rest lawful linked table text small =
      let next : ℕ = at + length (entry_bytes e) in
      let flat : List ℕ = flat_map entry_bytes entries in
      let behind : List ℕ = offsets next entries in
      let fits = and_parts (fits_fields e) (list_all fits_fields entries) lawful in
      let follows = and_parts (may_stand_behind before e) (are_linked (Some e) entries) linked in
      let long = length-append (entry_bytes e) flat in
      let table' : drop (2 + 2 * i) bytes ≡ be 2 at ++ (behind ++ t) = table ∙ append_assoc (be 2 at) behind t in
      let text' : drop at bytes ≡ entry_bytes e ++ (flat ++ rest) = text ∙ append_assoc (entry_bytes e) flat rest in
      let room : 2 + 2 * i + 2 ≤ length bytes = omega (arith, ap length table', length-append (be 2 at) (behind ++ t), length-be 2 at, length-drop (2 + 2 * i) bytes) in
      let number_is : number_at 2 bytes (2 + 2 * i) ≡ Some at =
      cond-true (leb (2 + 2 * i + 2) (length bytes)) (Some (number 2 (drop (2 + 2 * i) bytes))) None (le-leb (2 + 2 * i + 2) (length bytes) room)
      ∙ ap (λ (n : ℕ). Some n) (ap (number 2) table' ∙ number-be 2 at (behind ++ t) (omega arith)) in
      let entry_is : entry_at bytes at ≡ Some (e, next) = ap (λ (o : Option Entry). option_map (λ x. (x, at + length (entry_bytes x))) o) (ap entry_in text' ∙ entry_in-bytes e (flat ++ rest) fits.0) in
      let link_is : linked_entry bytes i at before ≡ Some (e, next) =
      ap (λ (o : Option ℕ). option_and_then (λ offset. cond (eqb offset at) (link_after before (entry_at bytes at)) None) o) number_is
      ∙ cond-true (eqb at at) (link_after before (entry_at bytes at)) None (eq-eqb at at refl)
      ∙ ap (link_after before) entry_is
      ∙ cond-true (may_stand_behind before e) (Some (e, next)) None follows.0 in
      let table_next : drop (2 + 2 * (i + 1)) bytes ≡ behind ++ t = ap (λ (n : ℕ). drop n bytes) (omega arith) ∙ sym (drop-drop 2 (2 + 2 * i) bytes) ∙ ap (drop 2) table' ∙ drop_at (be 2 at) (behind ++ t) 2 (length-be 2 at) in
      let text_next : drop next bytes ≡ flat ++ rest = sym (drop-drop (length (entry_bytes e)) at bytes) ∙ ap (drop (length (entry_bytes e))) text' ∙ drop_at (entry_bytes e) (flat ++ rest) (length (entry_bytes e)) refl in
      ap (λ (o : Option (Entry × ℕ)). option_and_then (λ x. chain_end bytes (length entries) (i + 1) x.1 (Some x.0)) o) link_is
      ∙ chain_found entries (i + 1) next (Some e) t rest fits.1 follows.1 table_next text_next (omega arith)
      ∙ ap (λ (n : ℕ). Some n) (omega arith)

  -- one link of the loop
  pub chain_on : (n i at : ℕ) (before : Option Entry) (x : Entry × ℕ) → i < n → linked_entry bytes i at before ≡ Some x → chain_end bytes (n - i) i at before ≡ chain_end bytes (n - (i + 1)) (i + 1) x.1 (Some x.0)
  unfolding chain_end
  chain_on n i at before x lt is =
      let left : n - i ≡ suc (n - (i + 1)) = omega arith in
      ap (λ (k : ℕ). chain_end bytes k i at before) left
      ∙ ap (λ (o : Option (Entry × ℕ)). option_and_then (λ y. chain_end bytes (n - (i + 1)) (i + 1) y.1 (Some y.0)) o) is

  pub chain_broken : (n i at : ℕ) (before : Option Entry) → i < n → linked_entry bytes i at before ≡ None → chain_end bytes (n - i) i at before ≡ None
  unfolding chain_end
  chain_broken n i at before lt is =
      let left : n - i ≡ suc (n - (i + 1)) = omega arith in
      ap (λ (k : ℕ). chain_end bytes k i at before) left
      ∙ ap (λ (o : Option (Entry × ℕ)). option_and_then (λ y. chain_end bytes (n - (i + 1)) (i + 1) y.1 (Some y.0)) o) is

  pub chain_over : (n i at : ℕ) (before : Option Entry) → n ≤ i → chain_end bytes (n - i) i at before ≡ Some at
  unfolding chain_end
  chain_over n i at before le =
      let left : n - i ≡ 0 = omega arith in
      ap (λ (k : ℕ). chain_end bytes k i at before) left
