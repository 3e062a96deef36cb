-- A run over the puts of a map.
use Rattle.std.proofs.Common.{◌≡◌, ◌≤◌, ◌<◌, ◌+◌, ◌^◌, ℕ, suc, leb, true, inl, inr, List, [], ◌∷◌, length, map, ap, ◌∙◌, arith}
use Rattle.std.proofs.lemmas.Bool.{and_parts, leb-true}
use Rattle.strat_base.specs.Sizes.{is_key, is_value}
use Rattle.def_bulk.specs.Exporting.{put_bodies, puts_of}
use Rattle.def_follow.specs.Log.{after_change, table_after}
use Rattle.strat_base.specs.Change as change
use Rattle.strat_model.specs.Pairs.{Pair, Pairs}
use Rattle.strat_model.specs.Request.{Request, Put}
use Rattle.strat_model.specs.Run.{Exchange, IsRun, Position}
use Rattle.strat_model.specs.Spelling.{HasForm, command_body}
use Rattle.strat_model.specs.Step.{step}
use Rattle.strat_model.specs.Table.{Table}
use Rattle.strat_bulk.specs.Runs.{AreLawful, IsRunByTable}

-- a run by the table is a run
pub is_run : (mem : ℕ) (xs : List Exchange) (at after : Position) → IsRunByTable mem at xs after → IsRun mem at xs after
is_run mem [] at after run = run
is_run mem (x ∷ xs) at after run = (run.0, (run.1.0, inr (inl run.1.1), is_run mem xs run.1.0 after run.1.2))

-- a put's body has its form
put_form : (n : ℕ) (p : Pair) (body : List ℕ) → n < 2 ^ 32 → is_key p.0 ≡ true → is_value p.1 ≡ true → body ≡ command_body n (Put 0 p.0 p.1) → HasForm body n (Put 0 p.0 p.1)
put_form n p body low key value is =
    let key_parts = and_parts (leb 1 (length p.0)) (leb (length p.0) 255) key in
    let key_few = leb-true (length p.0) 255 key_parts.1 in
    let value_few = leb-true (length p.1) 1024 value in
    record { text = is; tag_fits = low; fits = (omega arith, omega (arith, key_few), omega (arith, value_few)) }

head_of : {A : Type 0} (x y : A) (xs ys : List A) → x ∷ xs ≡ y ∷ ys → (x ≡ y) × (xs ≡ ys)
head_of x y xs ys is = (let h : x ∷ xs ≡ y ∷ ys = is in cc, let h : x ∷ xs ≡ y ∷ ys = is in cc)

module _ (one : (body : List ℕ) (tag other_tag : ℕ) (request other : Request) → HasForm body tag request → HasForm body other_tag other → (tag ≡ other_tag) × (request ≡ other)) where
  -- each body is a put of its pair, and the table takes it
  pub served : (mem n : ℕ) (m : Pairs) (xs : List Exchange) (at after : Position) → AreLawful m → n + length m ≤ 16777217 → map (λ x. x.body) xs ≡ put_bodies n m → IsRunByTable mem at xs after
      → after.table ≡ table_after at.table (puts_of m)
  served mem n [] [] at after lawful few bodies run = ap (λ (p : Position). p.table) run
  served mem n [] (x ∷ xs) at after lawful few bodies run = let h : x.body ∷ map (λ y. y.body) xs ≡ [] = bodies in absurd (cc)
  served mem n (p ∷ m) [] at after lawful few bodies run = let h : [] ≡ command_body n (Put 0 p.0 p.1) ∷ put_bodies (suc n) m = bodies in absurd (cc)
  served mem n (p ∷ m) (x ∷ xs) at after lawful few bodies run =
      let both = head_of x.body (command_body n (Put 0 p.0 p.1)) (map (λ (y : Exchange). y.body) xs) (put_bodies (suc n) m) bodies in
      let by = run.1.1 in
      let same : by.request ≡ Put 0 p.0 p.1 = (one x.body x.response.tag n by.request (Put 0 p.0 p.1) by.spelled.form (put_form n p x.body (omega (arith, few)) lawful.0.0 lawful.0.1 both.0)).1 in
      let next : run.1.0.table ≡ after_change at.table (change.Put 0 p.0 p.1) = by.place.table ∙ ap (λ (r : Request). (step at.table r).table) same in
      served mem (suc n) m xs run.1.0 after lawful.1 (omega (arith, few)) both.1 run.1.2 ∙ ap (λ (t : Table). table_after t (puts_of m)) next
