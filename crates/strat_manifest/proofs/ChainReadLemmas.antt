-- A chain as it is followed, link by link.
use Rattle.std.proofs.Common.{◌≡◌, ◌≢◌, ◌<◌, ◌+◌, ◌*◌, ℕ, zero, suc, Bool, true, false, cond, eqb, leb, ltb, not, ◌&&◌, ◌||◌, List, [], ◌∷◌, ◌++◌, length, Option, Some, Result, Ok, Err, refl, sym, ap, ◌∙◌, arith, append_assoc, append-nil, length-append, length-drop, ◌-◌, take, drop}
use Rattle.std.specs.List.{list_any}
use Rattle.std.specs.Result.{IsErrAnd}
use Rattle.std.proofs.lemmas.Result.{err_from_is_err_and}
use Rattle.std.proofs.lemmas.Bool.{cond-true, cond-false, eq-eqb, ne_eqb, ltb-true, and_parts}
use Rattle.std.proofs.lemmas.Grind.{flat_map-append}
use Rattle.std.proofs.lemmas.List.Folds.{list_any-append}
use Rattle.std.proofs.Math.Seq.{drop-append_seam}
use Rattle.std.proofs.lemmas.List.{take_at, take_all}
use Rattle.strat_base.specs.Numbers.{number, number_at}
use Rattle.strat_base.proofs.NumberLemmas.{number_at_some, number-take}
use Rattle.def_crash.proofs.ImageLemmas.{window_split, length-window}
use Rattle.strat_base.specs.declared.limits.TheConstants.{BLOCK}
use Rattle.def_crash.specs.Image.{Image, window}
use Rattle.def_bytes.specs.Chained.{link_at, may_follow, chain_from, chained_bytes}
use Rattle.def_bytes.specs.Damage.{Read, put_first}
use Rattle.strat_manifest.specs.Chains.{put_all, IsFollowed}

-- a block is one of these
abbrev one_of : List ℕ → ℕ → Bool
one_of blocks q = list_any (λ other. eqb other q) blocks

or_swap : (p q : Bool) → (p || (q || false)) ≡ (q || p)
or_swap true true = refl
or_swap true false = refl
or_swap false true = refl
or_swap false false = refl

-- a block behind others or in front of them
any_swap : (xs : List ℕ) (b q : ℕ) → one_of (b ∷ xs) q ≡ one_of (xs ++ b ∷ []) q
any_swap xs b q = sym (list_any-append (λ other. eqb other q) xs (b ∷ []) ∙ or_swap (one_of xs q) (eqb b q))

follow_same : (xs ys : List ℕ) (q : ℕ) → one_of xs q ≡ one_of ys q → may_follow xs q ≡ may_follow ys q
follow_same xs ys q same = ap (λ (t : Bool). (leb 1 q && ltb q 4294967295) && not t) same

-- what matters of the blocks in front is which they are
chain_same : (f : Image) (xs ys : List ℕ) (b n : ℕ) → ((q : ℕ) → one_of xs q ≡ one_of ys q) → chain_from f xs b n ≡ chain_from f ys b n
unfolding chain_from
chain_same f xs ys b zero same = refl
chain_same f xs ys b (suc n) same =
    let more : (q : ℕ) → one_of (b ∷ xs) q ≡ one_of (b ∷ ys) q = λ q. ap (λ (t : Bool). eqb b q || t) (same q) in
    ap (λ (t : Bool). cond t (put_first b (chain_from f (b ∷ xs) (link_at f b) n)) (Err b)) (follow_same (b ∷ xs) (b ∷ ys) (link_at f b) (more (link_at f b)))
    ∙ ap (λ (r : Read (List ℕ)). cond (may_follow (b ∷ ys) (link_at f b)) (put_first b r) (Err b)) (chain_same f (b ∷ xs) (b ∷ ys) (link_at f b) n more)

put_behind : (xs : List ℕ) (b : ℕ) (r : Read (List ℕ)) → put_all xs (put_first b r) ≡ put_all (xs ++ b ∷ []) r
put_behind xs b (Ok ys) = ap (λ (l : List ℕ). Ok l) (sym (append_assoc xs (b ∷ []) ys))
put_behind xs b (Err k) = refl

module _ (f : Image) (xs : List ℕ) (b n : ℕ) where
  linked : may_follow (xs ++ b ∷ []) (link_at f b) ≡ true → put_all xs (chain_from f xs b (suc n)) ≡ put_all (xs ++ b ∷ []) (chain_from f (xs ++ b ∷ []) (link_at f b) n)
  unfolding chain_from
  linked may =
      ap (put_all xs) (cond-true (may_follow (b ∷ xs) (link_at f b)) (put_first b (chain_from f (b ∷ xs) (link_at f b) n)) (Err b) (follow_same (b ∷ xs) (xs ++ b ∷ []) (link_at f b) (any_swap xs b (link_at f b)) ∙ may))
      ∙ put_behind xs b (chain_from f (b ∷ xs) (link_at f b) n)
      ∙ ap (put_all (xs ++ b ∷ [])) (chain_same f (b ∷ xs) (xs ++ b ∷ []) (link_at f b) n (any_swap xs b))

  misled : may_follow (xs ++ b ∷ []) (link_at f b) ≡ false → put_all xs (chain_from f xs b (suc n)) ≡ Err b
  unfolding chain_from
  misled may =
      ap (put_all xs) (cond-false (may_follow (b ∷ xs) (link_at f b)) (put_first b (chain_from f (b ∷ xs) (link_at f b) n)) (Err b) (follow_same (b ∷ xs) (xs ++ b ∷ []) (link_at f b) (any_swap xs b (link_at f b)) ∙ may))

  ended : link_at f b ≡ 0 → put_all xs (chain_from f xs b 0) ≡ Ok (xs ++ b ∷ [])
  unfolding chain_from
  ended link = ap (put_all xs) (cond-true (eqb (link_at f b) 0) (Ok (b ∷ [])) (Err b) (eq-eqb (link_at f b) 0 link))

  unended : link_at f b ≢ 0 → put_all xs (chain_from f xs b 0) ≡ Err b
  unfolding chain_from
  unended link = ap (put_all xs) (cond-false (eqb (link_at f b) 0) (Ok (b ∷ [])) (Err b) (ne_eqb (link_at f b) 0 link))

  chained_more : chained_bytes f (xs ++ b ∷ []) ≡ chained_bytes f xs ++ window f (4096 * b + 4) 4092
  chained_more =
      flat_map-append (λ d. window f (BLOCK * d + 4) 4092) xs (b ∷ []) ∙ ap (λ (l : List ℕ). chained_bytes f xs ++ l) (append-nil (window f (4096 * b + 4) 4092))

-- what was read of a block: the next, and the bytes of the chain with its own
abbrev pub ReadsLink : Option Image → ℕ → ℕ → List ℕ → List ℕ → Type 0
ReadsLink content block next old new =
    (f : Image) → content ≡ Some f → (next ≡ link_at f block) × (new ≡ old ++ window f (4096 * block + 4) 4092)

module _ (content : Option Image) (first n : ℕ) (blocks bytes : List ℕ) (block left next : ℕ) (new : List ℕ) (s : IsFollowed content first n blocks bytes block left) (link : ReadsLink content block next bytes new) where
  here : (f : Image) → content ≡ Some f → (later : ℕ) → left ≡ later → chain_from f [] first n ≡ put_all s.front (chain_from f s.front block later)
  here f told later is = s.rest f told ∙ ap (λ (k : ℕ). put_all s.front (chain_from f s.front block k)) is

  may : (f : Image) → content ≡ Some f → (t : Bool) → may_follow blocks next ≡ t → may_follow (s.front ++ block ∷ []) (link_at f block) ≡ t
  may f told t is = sym ((λ i. may_follow (s.found i) ((link f told).0 i))) ∙ is

  all_read : (f : Image) → content ≡ Some f → new ≡ chained_bytes f blocks
  all_read f told =
      (link f told).1 ∙ ap (λ (l : List ℕ). l ++ window f (4096 * block + 4) 4092) (s.read f told) ∙ sym (chained_more f s.front block n) ∙ ap (chained_bytes f) (sym s.found)

  -- one more link
  pub followed_more : (later : ℕ) (blocks2 : List ℕ) → left ≡ later + 1 → may_follow blocks next ≡ true → blocks2 ≡ blocks ++ next ∷ [] → length new ≡ length bytes + 4092
      → IsFollowed content first n blocks2 new next later
  unfolding here may all_read
  followed_more later blocks2 more follows is long =
      let size : length blocks ≡ length s.front + 1 = ap length s.found ∙ length-append s.front (block ∷ []) in record {
        front = blocks;
        found = is;
        rest = λ f told.
            here f told (suc later) (omega arith) ∙ linked f s.front block later (may f told true follows)
            ∙ (λ i. put_all (sym s.found i) (chain_from f (sym s.found i) (sym (link f told).0 i) later));
        read = all_read;
        count = omega (arith, s.count);
        size = omega (arith, s.size);
      }

  -- the link may not be followed
  pub followed_wrong : (later : ℕ) → left ≡ later + 1 → may_follow blocks next ≡ false → (f : Image) → content ≡ Some f → chain_from f [] first n ≡ Err block
  followed_wrong later more follows = λ f told. here f told (suc later) (omega arith) ∙ misled f s.front block later (may f told false follows)

  -- the last block names no other
  pub followed_all : left ≡ 0 → next ≡ 0 → (f : Image) → content ≡ Some f → (chain_from f [] first n ≡ Ok blocks) × (new ≡ chained_bytes f blocks)
  followed_all none last = λ f told.
      (here f told 0 none ∙ ended f s.front block n (sym (link f told).0 ∙ last) ∙ ap (λ (l : List ℕ). Ok l) (sym s.found), all_read f told)

  -- the last block names another
  pub followed_on : left ≡ 0 → next ≢ 0 → (f : Image) → content ≡ Some f → chain_from f [] first n ≡ Err block
  followed_on none last = λ f told. here f told 0 none ∙ unended f s.front block n (λ zero. last ((link f told).0 ∙ zero))

-- a block as it was read: its link, and its bytes behind the others
pub link_told : (f : Image) (b next : ℕ) (block old new : List ℕ) → block ≡ window f (4096 * b) 4096 → Some next ≡ number_at 4 block 0 → new ≡ old ++ take (length block - 4) (drop 4 block) → (next ≡ link_at f b) × (new ≡ old ++ window f (4096 * b + 4) 4092)
link_told f b next block old new is told more =
    let parts : block ≡ window f (4096 * b) 4 ++ window f (4096 * b + 4) 4092 = is ∙ window_split f (4096 * b) 4 4092 in
    let all : take (length block - 4) (drop 4 block) ≡ drop 4 block = take_all (length block - 4) (drop 4 block) (let n = length-drop 4 block in omega (arith, n)) in
    let long : length (window f (4096 * b) 4) ≡ 4 = length-window f (4096 * b) 4 in (
      (number_at_some 4 block 0 next told).1 ∙ sym (number-take 4 block) ∙ ap (number 4) (ap (take 4) parts ∙ take_at (window f (4096 * b) 4) (window f (4096 * b + 4) 4092) 4 long),
      more ∙ ap (λ (l : List ℕ). old ++ l) (all ∙ ap (drop 4) parts ∙ ap (λ (n : ℕ). drop n (window f (4096 * b) 4 ++ window f (4096 * b + 4) 4092)) (sym long) ∙ drop-append_seam (window f (4096 * b) 4) (window f (4096 * b + 4) 4092)),
    )

pub follows_low : (blocks : List ℕ) (b : ℕ) → may_follow blocks b ≡ true → b < 4294967295
follows_low blocks b may = ltb-true b 4294967295 (and_parts (leb 1 b) (ltb b 4294967295) (and_parts (leb 1 b && ltb b 4294967295) (not (one_of blocks b)) may).0).1

-- the error that a `?` hands on
pub err_told : {T U E : Type 0} (r : Result T E) (y z : E) → IsErrAnd r (λ e. e ≡ y) → r ≡ Err z → ◌≡◌ {A = Result U E} (Err y) (Err z)
err_told r y z and is =
    let p = err_from_is_err_and r and in
    let same : Err p.0 ≡ Err z = sym p.1 ∙ is in
    let one : p.0 ≡ z = cc in
    ap (λ (w : _). Err w) (sym p.2 ∙ one)
