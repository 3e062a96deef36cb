-- The cells of a block: one by one, as room, and behind a `&`.
use mathlib.Core.Path.{◌≡◌, refl, sym, ap, ◌∙◌}
use Prim.Native.Nat.{ℕ, zero, suc, ◌+◌, ◌<◌}
use native.Mathlib.Omega.{arith}
use mathlib.Core.List.{List, [], ◌∷◌, ◌++◌, map}
use lib.ListN.{length, take, drop, set, get_or, replicate, take-append-drop, length-take}
use lib.Seq.{drop-cons, set_split}
use seplogic.Ra.Ura.{Ura}
use base.Fraction.{full_share}
use base.Logic.{ent, sep, via, id⊢, mono_r}
use base.Fml.{Fml, Lft, ftrue, fsep, froom}
use mir.Syntax.{ty_array, ty_int, w8}
use mir.Val.{vint}
use types.Logic.{Logic, sem}
use types.Kit.{‵, ◌⊛◌, ◌$◌, ◌∵◌, !, qed, by, move, keep, drop as skip, use1, use2, split, frame, rewrite, fsplit, fjoin, done}
use denote.Builtin.{u8}
use denote.Plain.{uint_out}
use denote.Slice.{elements_shared}
use denote.Steps.{nothing}
use Rattle.std.specs.Prelude.{Option, Some, None}
use Rattle.strat_arena.specs.Ownership.{cell_own, row_own, cell_lent, row_lent}

abbrev Cells : Type 0
Cells = List (Option ℕ)

module _ {M : Type 1} {𝓤 : Ura M} (𝓛 : Logic 𝓤) (b : ℕ) where
  open 𝓛 use {H}

  abbrev Row : ℕ → Cells → Fml
  Row = row_own b

  -- a row in two, and back
  apart : (xs ys : Cells) (o at : ℕ) → at ≡ o + length xs → ent 𝓤 (sem 𝓛 (Row o (xs ++ ys))) (sep 𝓤 (sem 𝓛 (Row o xs)) (sem 𝓛 (Row at ys)))
  apart [] ys o at e = qed 𝓛 (‵ (Row o ys) ∷ []) ∵ rewrite ! 0 (λ (k : ℕ). ‵ (Row k ys)) {x = at} (omega arith) refl $ nothing ! $ done !
  apart (x ∷ xs) ys o at e =
      qed 𝓛 (‵ (Row o (x ∷ xs ++ ys)) ∷ []) ∵ fsplit ! $ move ! (1 ∷ []) $
      use1 𝓛 (‵ (Row (o + 1) xs) ⊛ ‵ (Row at ys)) (apart xs ys (o + 1) at (omega arith)) $ split ! $ move ! (2 ∷ 0 ∷ []) $ fjoin ! $ done !

  together : (xs ys : Cells) (o at : ℕ) → at ≡ o + length xs → ent 𝓤 (sep 𝓤 (sem 𝓛 (Row o xs)) (sem 𝓛 (Row at ys))) (sem 𝓛 (Row o (xs ++ ys)))
  together [] ys o at e = qed 𝓛 (‵ ftrue ∷ ‵ (Row at ys) ∷ []) ∵ skip ! $ rewrite ! 0 (λ (k : ℕ). ‵ (Row k ys)) {x = o} (omega arith) refl $ done !
  together (x ∷ xs) ys o at e =
      qed 𝓛 (‵ (Row o (x ∷ xs)) ∷ ‵ (Row at ys) ∷ []) ∵ fsplit ! $ move ! (1 ∷ 2 ∷ []) $
      use2 𝓛 (‵ (Row (o + 1) (xs ++ ys))) (together xs ys (o + 1) at (omega arith)) $ move ! (1 ∷ 0 ∷ []) $ fjoin ! $ done !

  module _ (o : ℕ) (cs : Cells) (i : ℕ) (within_row : i < length cs) where
    -- all cells but one
    abbrev pub Others : Fml
    Others = fsep (Row o (take i cs)) (Row (i + o + 1) (drop (suc i) cs))

    here : i + o ≡ o + length (take i cs)
    here = omega (arith, length-take i cs)

    pub cell_out : ent 𝓤 (sem 𝓛 (Row o cs)) (sep 𝓤 (sem 𝓛 (cell_own b (i + o) (get_or cs i None))) (sem 𝓛 Others))
    cell_out =
        qed 𝓛 (‵ (Row o cs) ∷ []) ∵
        rewrite ! 0 (λ (l : Cells). ‵ (Row o l)) (sym (take-append-drop i cs) ∙ ap (λ l. take i cs ++ l) (drop-cons cs i None within_row)) refl $
        use1 𝓛 (‵ (Row o (take i cs)) ⊛ ‵ (Row (i + o) (get_or cs i None ∷ drop (suc i) cs))) (apart (take i cs) (get_or cs i None ∷ drop (suc i) cs) o (i + o) here) $
        split ! $ move ! (1 ∷ []) $ fsplit ! $ move ! (2 ∷ 1 ∷ []) $ fjoin ! $ move ! (1 ∷ []) $ done !

    pub cell_in : (c : Option ℕ) → ent 𝓤 (sep 𝓤 (sem 𝓛 (cell_own b (i + o) c)) (sem 𝓛 Others)) (sem 𝓛 (Row o (set cs i c)))
    cell_in c =
        qed 𝓛 (‵ (cell_own b (i + o) c) ∷ ‵ Others ∷ []) ∵ move ! (1 ∷ []) $ fsplit ! $ move ! (2 ∷ 1 ∷ []) $ fjoin ! $ move ! (1 ∷ 0 ∷ []) $
        use2 𝓛 (‵ (Row o (take i cs ++ c ∷ drop (suc i) cs))) (together (take i cs) (c ∷ drop (suc i) cs) o (i + o) here) $
        rewrite ! 0 (λ (l : Cells). ‵ (Row o l)) (sym (set_split cs i c within_row)) refl $ done !

  -- a cell is room for a byte, whatever it holds
  pub cell_room : (c : Option ℕ) (o : ℕ) → ent 𝓤 (sem 𝓛 (cell_own b o c)) (H.room (ty_int w8) b o)
  cell_room (Some x) o = via 𝓤 (H.at full_share (ty_int w8) b o (vint w8 x)) (uint_out 𝓛 full_share w8 x b o) (𝓛.laws.at_room (ty_int w8) b o (vint w8 x))
  cell_room None o = id⊢ 𝓤 (H.room (ty_int w8) b o)

  -- room for an array is a row of empty cells, and any row is room for an array
  pub from_room : (n o : ℕ) → ent 𝓤 (H.room (ty_array (ty_int w8) n) b o) (sem 𝓛 (Row o (replicate n None)))
  from_room zero o = qed 𝓛 (‵ (froom (ty_array (ty_int w8) 0) b o) ∷ []) ∵ keep ! [] $ done !
  from_room (suc n) o =
      qed 𝓛 (‵ (froom (ty_array (ty_int w8) (suc n)) b o) ∷ []) ∵
      use1 𝓛 (‵ (froom (ty_int w8) b o) ⊛ ‵ (froom (ty_array (ty_int w8) n) b (o + 1))) (𝓛.laws.room_uncons (ty_int w8) n b o) $ split ! $
      frame ! $ by ! (from_room n (o + 1))

  pub into_room : (cs : Cells) (o : ℕ) → ent 𝓤 (sem 𝓛 (Row o cs)) (H.room (ty_array (ty_int w8) (length cs)) b o)
  into_room [] o = 𝓛.laws.room_nil (ty_int w8) b o
  into_room (c ∷ cs) o =
      qed 𝓛 (‵ (cell_own b o c) ∷ ‵ (Row (o + 1) cs) ∷ []) ∵
      use1 𝓛 (‵ (froom (ty_int w8) b o)) (cell_room c o) $ move ! (1 ∷ []) $
      use1 𝓛 (‵ (froom (ty_array (ty_int w8) (length cs)) b (o + 1))) (into_room cs (o + 1)) $ move ! (1 ∷ []) $ by ! (𝓛.laws.room_cons (ty_int w8) (length cs) b o)

  -- the bytes at the front of a row, behind a `&`
  module _ (κ : Lft) where
    abbrev Lent : ℕ → Cells → Fml
    Lent o cs = row_lent b o cs κ

    front_lent : (xs : List ℕ) (rest : Cells) (o : ℕ) → ent 𝓤 (sem 𝓛 (Lent o (map Some xs ++ rest))) (sem 𝓛 (elements_shared u8 xs b o κ))
    front_lent [] rest o = qed 𝓛 (‵ (Lent o rest) ∷ []) ∵ keep ! [] $ done !
    front_lent (x ∷ xs) rest o = mono_r 𝓤 (sem 𝓛 (cell_lent b o (Some x) κ)) (front_lent xs rest (o + 1))

    pub front_seen : (o : ℕ) (cs : Cells) (n : ℕ) (xs : List ℕ) → take n cs ≡ map Some xs → ent 𝓤 (sem 𝓛 (Lent o cs)) (sem 𝓛 (elements_shared u8 xs b o κ))
    front_seen o cs n xs e =
        qed 𝓛 (‵ (Lent o cs) ∷ []) ∵
        rewrite ! 0 (λ (l : Cells). ‵ (Lent o l)) (sym (take-append-drop n cs) ∙ ap (λ l. l ++ drop n cs) e) refl $ by ! (front_lent xs (drop n cs) o)
