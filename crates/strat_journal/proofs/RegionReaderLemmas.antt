-- What stands behind a gate is clear as soon as the bytes read have it whole, or as many bytes as a change may have.
use Rattle.std.proofs.Common.{◌≡◌, ◌≤◌, ◌<◌, ◌+◌, ◌-◌, ◌*◌, ℕ, suc, inl, inr, List, [], ◌∷◌, ◌++◌, length, take, drop, get_or, Some, None, Result, Ok, IsErr, IfSome, refl, sym, ap, ◌∙◌, subst, arith, length-append, length-drop, length-take, take-append-drop, append_assoc, drop-cons}
use Rattle.std.specs.Option.{IsSome}
use Rattle.std.proofs.lemmas.Result.{IfOk-from_err, on_ok_weaker}
use Rattle.std.proofs.lemmas.List.{take_at, drop_at, append-nil, take-append-le}
use Rattle.std.proofs.lemmas.Bool.{false≢true}
use Rattle.def_crash.specs.Image.{Image, HoldsBytes, window}
use Rattle.def_crash.specs.Moments.{DiskView, OnlyReads}
use Rattle.strat_base.specs.Numbers.{AreBytes}
use Rattle.strat_base.specs.Change.{Change, change_bytes, change_in, BeginsWithChange}
use Rattle.def_crash.proofs.ImageLemmas.{length-window, window_at, window_split}
use Rattle.def_crash.proofs.MomentLemmas.{at_told, reads_trans}
use Rattle.strat_base.proofs.NumberLemmas.{AreBytes-take}
use Rattle.strat_base.proofs.ChangeLemmas.{change_in-bytes, change_in-some, length-change_bytes}
use Rattle.strat_base.proofs.ResultFacts.{option_cases}
use Rattle.strat_journal.specs.RegionReader.{ReadSoFar, IsReadSoFar, MatchesImage, IsConclusive, IsClear, ReadsOn, EndsRecord}
use Rattle.strat_journal.proofs.RecordLemmas.{AreBytes-window}

-- a call that reads on behind another that did
pub reads_on_trans : {X T E : Type 0} (old mid new : DiskView) (before between now : ℕ) (part next last : ReadSoFar) (x : X) (r : Result T E)
    → ReadsOn {T = X} {E = E} old mid before between part next (Ok x) → ReadsOn mid new between now next last r → ReadsOn old new before now part last r
reads_on_trans old mid new before between now part next last x r a b = record {
  first = b.first ∙ a.first;
  size = b.size ∙ a.size;
  longer = omega (arith, a.longer, b.longer);
  within = b.within;
  looks = reads_trans a.looks b.looks;
  front = λ k few. b.front k (omega (arith, few, a.longer)) ∙ a.front k few;
  shows = on_ok_weaker r (λ (g : (f : Image) → mid.content ≡ Some f → MatchesImage f next → MatchesImage f last) f exposed shown. g f (a.looks.same ∙ exposed) (a.shows f exposed shown)) b.shows;
  fewest = omega (arith, a.fewest, b.fewest);
  most = omega (arith, a.each_once, b.most, a.size);
  each_once = on_ok_weaker r (λ (h : 4096 * now + length next.bytes ≤ 4096 * between + length last.bytes). omega (arith, a.each_once, h)) b.each_once;
}

-- a failure that is handed on
pub reads_on_err : {T E U F : Type 0} {old new : DiskView} {before now : ℕ} {part next : ReadSoFar} (r : Result T E) (s : Result U F) → ReadsOn old new before now part next r → IsErr s
    → ReadsOn old new before now part next s
reads_on_err {old = old} {new = new} {before = before} {now = now} {part = part} {next = next} r s a err = record {
  first = a.first;
  size = a.size;
  longer = a.longer;
  within = a.within;
  looks = a.looks;
  front = a.front;
  shows = IfOk-from_err s (λ _. (f : Image) → old.content ≡ Some f → MatchesImage f part → MatchesImage f next) err;
  fewest = a.fewest;
  most = a.most;
  each_once = IfOk-from_err s (λ _. 4096 * now + length part.bytes ≤ 4096 * before + length next.bytes) err;
}

front_bytes : (xs more : List ℕ) → AreBytes (xs ++ more) → AreBytes xs
front_bytes xs more bytes = subst AreBytes (take_at xs more (length xs) refl) (AreBytes-take (length xs) (xs ++ more) bytes)

-- a change that is read stays when more bytes follow
pub change_in-more : (xs more : List ℕ) (c : Change) → AreBytes xs → change_in xs ≡ Some c → change_in (xs ++ more) ≡ Some c
change_in-more xs more c bytes e =
    let begins = change_in-some xs c bytes e in
    ap change_in (ap (λ (x : List ℕ). x ++ more) begins.split ∙ append_assoc (change_bytes c) begins.rest more)
    ∙ change_in-bytes c (begins.rest ++ more) begins.lawful

-- and no bytes behind as many as a change may have matter
pub change_in-long : (xs more : List ℕ) → AreBytes (xs ++ more) → 1287 ≤ length xs → change_in xs ≡ change_in (xs ++ more)
change_in-long xs more bytes long =
    elim (option_cases (change_in (xs ++ more))) [
      | inr found ↦
          let begins = change_in-some (xs ++ more) found.0 bytes found.1 in
          let few : length (change_bytes found.0) ≤ length xs = omega (arith, length-change_bytes found.0 begins.lawful) in
          let front : take (length (change_bytes found.0)) xs ≡ change_bytes found.0 =
          sym (take-append-le (length (change_bytes found.0)) xs more few) ∙ ap (take (length (change_bytes found.0))) begins.split
          ∙ take_at (change_bytes found.0) begins.rest (length (change_bytes found.0)) refl in
          let split : xs ≡ change_bytes found.0 ++ drop (length (change_bytes found.0)) xs =
          sym (take-append-drop (length (change_bytes found.0)) xs) ∙ ap (λ (x : List ℕ). x ++ drop (length (change_bytes found.0)) xs) front in
          ap change_in split ∙ change_in-bytes found.0 (drop (length (change_bytes found.0)) xs) begins.lawful ∙ sym found.1
      | inl none ↦ elim (option_cases (change_in xs)) [
        | inl also ↦ also ∙ sym none
        | inr found ↦
            let there : change_in (xs ++ more) ≡ Some found.0 = change_in-more xs more found.0 (front_bytes xs more bytes) found.1 in
            absurd (let e : None ≡ Some found.0 = sym none ∙ there in cc)
      ]
    ]

-- the rest of a window
pub drop_window : (f : Image) (at n k : ℕ) → k ≤ n → drop k (window f at n) ≡ window f (at + k) (n - k)
drop_window f at n k few =
    let split : n ≡ k + (n - k) = omega arith in
    ap (λ (m : ℕ). drop k (window f at m)) split ∙ ap (drop k) (window_split f at k (n - k)) ∙ drop_at (window f at k) (window f (at + k) (n - k)) k (length-window f at k)

no_more : (f : Image) (at n : ℕ) → n ≡ 0 → window f at n ≡ []
unfolding window
no_more f at n none = ap (window f at) none

module _ (f : Image) (holds : HoldsBytes f) (part : ReadSoFar) (at : ℕ) (within : length part.bytes ≤ part.size) (there : at < length part.bytes) (shown : MatchesImage f part) where
  abbrev more : List ℕ
  more = window f (part.first + length part.bytes) (part.size - length part.bytes)

  abbrev seen : List ℕ
  seen = drop (at + 1) part.bytes

  seen_is : seen ≡ window f (part.first + at + 1) (length part.bytes - (at + 1))
  seen_is =
      let place : part.first + (at + 1) ≡ part.first + at + 1 = omega arith in
      ap (drop (at + 1)) shown ∙ drop_window f part.first (length part.bytes) (at + 1) (omega arith)
      ∙ ap (λ (n : ℕ). window f n (length part.bytes - (at + 1))) place

  whole : window f (part.first + at + 1) (part.size - (at + 1)) ≡ seen ++ more
  whole =
      let size : part.size - (at + 1) ≡ (length part.bytes - (at + 1)) + (part.size - length part.bytes) = omega arith in
      let place : part.first + at + 1 + (length part.bytes - (at + 1)) ≡ part.first + length part.bytes = omega arith in
      ap (window f (part.first + at + 1)) size
      ∙ window_split f (part.first + at + 1) (length part.bytes - (at + 1)) (part.size - length part.bytes)
      ∙ ap (λ (n : ℕ). window f (part.first + at + 1) (length part.bytes - (at + 1)) ++ window f n (part.size - length part.bytes)) place
      ∙ ap (λ (x : List ℕ). x ++ more) (sym seen_is)

  whole_bytes : AreBytes (seen ++ more)
  whole_bytes = subst AreBytes whole (AreBytes-window f (part.first + at + 1) (part.size - (at + 1)) holds)

  gate_is : get_or part.bytes at 0 ≡ f (part.first + at)
  gate_is = ap (λ (x : List ℕ). get_or x at 0) shown ∙ window_at f part.first (length part.bytes) at there

  some_change : IsSome (change_in seen) → change_in seen ≡ change_in (window f (part.first + at + 1) (part.size - (at + 1)))
  some_change some = elim (option_cases (change_in seen)) [
    | inl none ↦ absurd (false≢true (rw none at some))
    | inr found ↦ found.1 ∙ sym (change_in-more seen more found.0 (front_bytes seen more whole_bytes) found.1) ∙ ap change_in (sym whole)
  ]

  pub clear_uncut : IsConclusive part at → IsClear f part at
  clear_uncut uncut = record {
    read = there;
    gate = gate_is;
    change = λ up. elim uncut [
      | inl shut ↦ absurd (shut (gate_is ∙ up))
      | inr (inl all) ↦
          let none : part.size - length part.bytes ≡ 0 = omega (arith, within) in
          ap change_in (sym (append-nil seen) ∙ ap (λ (x : List ℕ). seen ++ x) (sym (no_more f (part.first + length part.bytes) (part.size - length part.bytes) none)) ∙ sym whole)
      | inr (inr some) ↦ some_change some
    ];
  }

  pub clear_long : at + 1288 ≤ length part.bytes → IsClear f part at
  clear_long long = record {
    read = there;
    gate = gate_is;
    change = λ up. change_in-long seen more whole_bytes (omega (arith, long, length-drop (at + 1) part.bytes)) ∙ ap change_in (sym whole);
  }

shows_more : (f : Image) (first : ℕ) (bytes block all : List ℕ) → all ≡ bytes ++ block → bytes ≡ window f first (length bytes) → block ≡ window f (first + length bytes) (length block)
    → all ≡ window f first (length all)
shows_more f first bytes block all all_is shown there =
    all_is ∙ (λ i. shown i ++ there i) ∙ sym (window_split f first (length bytes) (length block))
    ∙ ap (window f first) (sym (length-append bytes block) ∙ ap length (sym all_is))

-- a block behind those that were read
pub block_read : {T E : Type 0} (old new : DiskView) (before now : ℕ) (first size room : ℕ) (bytes block all : List ℕ) (x : T) (place n : ℕ) → IsReadSoFar first size bytes room → length bytes < size
    → place ≡ first + length bytes → n ≡ 4096 → length block ≡ n
    → all ≡ bytes ++ block → IfSome old.content (λ f. block ≡ window f place n) → OnlyReads old new → before ≤ now → now ≤ before + 1
    → ReadsOn {T = T} {E = E} old new before now (record { first = first; size = size; bytes = bytes }) (record { first = first; size = size; bytes = all }) (Ok x)
block_read old new before now first size room bytes block all x place n part short place_is n_is len all_is there looks few most =
    let long : length all ≡ length bytes + 4096 = omega (arith, ap length all_is, length-append bytes block) in
    record {
      first = refl;
      size = refl;
      longer = omega (arith, long);
      within = omega (arith, long, part.within, part.blocks, part.whole);
      looks = looks;
      front = λ k few'. ap (take k) all_is ∙ take-append-le k bytes block few';
      shows = λ f exposed shown. shows_more f first bytes block all all_is shown
          (at_told old.content (λ f. block ≡ window f place n) f exposed there ∙ (λ i. window f (place_is i) (sym len i)));
      fewest = few;
      most = omega (arith, long, part.within, part.blocks, part.whole);
      each_once = omega (arith, long);
    }

-- an open gate and a change behind it are a record
pub record_ends : (bytes all : List ℕ) (at next : ℕ) (c : Change) → bytes ≡ all → get_or all at 0 ≡ 0xa7 → BeginsWithChange (drop (at + 1) bytes) c → at < length bytes
    → next ≡ at + 1 + length (change_bytes c) → EndsRecord all at c next
record_ends bytes all at next c same up begins there next_is =
    let step : at + 1 ≡ suc at = omega arith in
    let behind : drop at bytes ≡ 0xa7 ∷ (change_bytes c ++ begins.rest) =
    drop-cons bytes at 0 there ∙ (λ i. (ap (λ (x : List ℕ). get_or x at 0) same ∙ up) i ∷ drop (sym step i) bytes) ∙ ap (λ (x : List ℕ). 0xa7 ∷ x) begins.split in
    let split : bytes ≡ (take at bytes ++ 0xa7 ∷ change_bytes c) ++ begins.rest =
    sym (take-append-drop at bytes) ∙ ap (λ (x : List ℕ). take at bytes ++ x) behind ∙ sym (append_assoc (take at bytes) (0xa7 ∷ change_bytes c) begins.rest) in
    subst (λ (x : List ℕ). EndsRecord x at c next) same (record {
      text = ap (take next) split ∙ take_at (take at bytes ++ 0xa7 ∷ change_bytes c) begins.rest next
          (omega (arith, next_is, length-append (take at bytes) (0xa7 ∷ change_bytes c), length-take {A = ℕ} at bytes, there));
      lawful = begins.lawful;
    })

-- a change that stands behind a place ends within the bytes, and not far behind it
pub begins_near : (bytes all : List ℕ) (at next : ℕ) (c : Change) → bytes ≡ all → BeginsWithChange (drop (at + 1) bytes) c → at < length bytes → next ≡ at + 1 + length (change_bytes c)
    → (next ≤ at + 1288) × (next ≤ length all)
begins_near bytes all at next c same begins there next_is =
    let few = length-change_bytes c begins.lawful in
    let size : length (drop (at + 1) bytes) ≡ length (change_bytes c) + length begins.rest = ap length begins.split ∙ length-append (change_bytes c) begins.rest in
    (omega arith, omega (arith, size, length-drop (at + 1) bytes, ap length same))
