-- How the machine holds an address, an owner that takes no bytes, and three things together.
use Rattle.std.proofs.Common.{◌≡◌, List, [], ◌∷◌, ◌++◌, refl, ◌∙◌}
use seplogic.Ra.Ura.{Ura}
use mir.Val.{Val, vstruct, vcons, vnil, of_list}
use base.Logic.{ent, emp, sep}
use base.Fml.{Fml}
use types.Logic.{Logic, sem}
use types.Kit.{‵, ◌$◌, ◌∵◌, !, qed, move, fjoin, fpack, feq_i, done}
use denote.RattleType.{RattleType, Valss}
use denote.RawPtr.{Ptr, RawPtr, ptr_val}
use denote.Shadow.{shadow, makes_shadow}
use denote.Steps.{nothing}
use denote.Struct.Declared.{shape}
use denote.Struct.Struct.{Struct, within}
use denote.Struct.Tuple.{Tuple, tuple_type}

-- a struct of these fields
abbrev struct_of : List RattleType → RattleType
struct_of fields = Struct (record { name = []; args = []; types = []; fields = fields })

abbrev pub address_val : Ptr → Val
address_val p = vstruct (vcons (ptr_val p) vnil)

abbrev pub address_own : Ptr → List Val → Fml
address_own p = (struct_of (RawPtr ∷ [])).own_val (p, tt)

pub address_told : (p : Ptr) (vs : List Val) → shadow (address_own p vs) → vs ≡ address_val p ∷ []
address_told p vs s = s.1.0 ∙ (λ i. vstruct (of_list (s.1.1.0 i ++ [])) ∷ [])

abbrev pub owner_val : Val
owner_val = vstruct (vcons (vstruct vnil) vnil)

abbrev pub owner_own : List Val → Fml
owner_own = (struct_of (struct_of [] ∷ [])).own_val (tt, tt)

pub owner_told : (vs : List Val) → shadow (owner_own vs) → vs ≡ owner_val ∷ []
owner_told vs s = s.1.0 ∙ (λ i. vstruct (of_list (s.1.1.0.1.0 i ++ [])) ∷ [])

abbrev pub triple_val : Val → Val → Val → Val
triple_val u v w = vstruct (vcons u (vcons v (vcons w vnil)))

module _ {M : Type 1} {𝓤 : Ura M} (𝓛 : Logic 𝓤) where
  pub address_made : (p : Ptr) → ent 𝓤 (emp 𝓤) (sem 𝓛 (address_own p (address_val p ∷ [])))
  address_made p = makes_shadow 𝓛 (address_own p (address_val p ∷ [])) (λ _. (tt, (tt, tt))) ((ptr_val p ∷ [], tt), (refl, (refl, tt)))

  pub owner_made : ent 𝓤 (emp 𝓤) (sem 𝓛 (owner_own (owner_val ∷ [])))
  owner_made = makes_shadow 𝓛 (owner_own (owner_val ∷ [])) (λ _. (tt, ((λ _. (tt, tt)), tt))) ((vstruct vnil ∷ [], tt), (refl, ((tt, (refl, tt)), tt)))

  pub triple_made : (R S T : RattleType) (x : R.Denot) (y : S.Denot) (z : T.Denot) (u v w : Val)
      → ent 𝓤 (sep 𝓤 (sem 𝓛 (R.own_val x (u ∷ []))) (sep 𝓤 (sem 𝓛 (S.own_val y (v ∷ []))) (sem 𝓛 (T.own_val z (w ∷ [])))))
      (sem 𝓛 ((Tuple (R ∷ S ∷ T ∷ [])).own_val (x, y, z) (triple_val u v w ∷ [])))
  triple_made R S T x y z u v w =
      qed 𝓛 (‵ (R.own_val x (u ∷ [])) ∷ ‵ (S.own_val y (v ∷ [])) ∷ ‵ (T.own_val z (w ∷ [])) ∷ []) ∵
      nothing ! $ move ! (3 ∷ 0 ∷ []) $ fjoin ! $ move ! (2 ∷ 0 ∷ []) $ fjoin ! $ move ! (1 ∷ 0 ∷ []) $ fjoin ! $
      feq_i ! (List Val) (triple_val u v w ∷ []) (triple_val u v w ∷ []) refl $ fjoin ! $
      fpack ! (Valss (R ∷ S ∷ T ∷ [])) (within (shape (tuple_type (R ∷ S ∷ T ∷ []))) (x, (y, (z, tt))) (triple_val u v w ∷ [])) (u ∷ [], (v ∷ [], (w ∷ [], tt))) $ done !
