-- `write` takes the cell's room out of the row, and puts it back with the byte in it.
use Rattle.std.proofs.Common.{◌≡◌, ◌<◌, ◌+◌, ◌^◌, List, [], ◌∷◌, ◌++◌, length, get_or, set, length-set, Some, None, refl, sym, ◌∙◌, arith, w8, w64}
use base.Fraction.{full_share}
use mir.Syntax.{ty_int}
use mir.Val.{Val, vint, vptr, vunit}
use base.Logic.{SProp, emp, never, id⊢}
use base.Fml.{Lft, Share, ftrue, fat, froom, flft}
use prog.Wp.{Env, WpFn}
use contract.Monad.{fact, fact_i}
use contract.Running.{tables}
use types.Kit.{‵, raw, ◌⊛◌, prop, at_ret, ◌$◌, ◌∵◌, !, qed, by, move, keep, use0, use1, use2, split, join, rewrite, regoal, fsplit, fsplit3, fjoin, fjoin3, feq_i, flt_l, flt_i}
use types.Part.{whole, sub}
use types.Run.{init, stop, fld, bin, unit_lit, of_opd, assigns_last, first, blocks, exec, returns, enter}
use types.ByLocal.{alloc_all, pass_all, free_all, look_at, get, get_in, through, sets, take_at, give_at, env}
use denote.Builtin.{u8, usize}
use denote.Param.{layout}
use denote.Plain.{uint_in}
use denote.RattleType.{owns}
use denote.RawPtr.{Ptr, in_a_block}
use denote.Signature.{plain, types_at}
use denote.Steps.{nothing, opens, closes, heard}
use denote.Triple.Entry.{alive}
use denote.Triple.Walked.{Stays, stay_ref, stay_dropped, walk_of, Goes-ref, Goes-dropped}
use Rattle.std.proofs.alloc.Shapes.{after}
use Rattle.std.proofs.raw_atomic.Walks.{proved_at, leaves}
use Rattle.std.proofs.RcSteps.{word-Good}
use Rattle.strat_arena.specs.Ownership.{cell_own, row_own, cells_own}
use Rattle.strat_arena.proofs.BlockLemmas.{Others, cell_out, cell_in, cell_room}
use Rattle.strat_arena.proofs.ValueLemmas.{address_val, address_told}
use Rattle.strat_arena.specs.contracts.raw.Address as address
use Rattle.strat_arena.specs.contracts.raw.Cells as cells
use Rattle.strat_arena.specs.contracts.raw.Cells.write as f
use Rattle.strat_arena.proofs.raw.Cells.write.Statement.{statement}
use Rattle.strat_arena.proofs.raw.Cells.write.Code as code

abbrev stayed : Stays f.ended.signature.params f.ended.kept
stayed = (stay_ref (0 ∷ []) tt (plain (λ _. cells.the_row)), (stay_dropped (plain (λ _. address.the_row)) f.ended.kept.1.0, (stay_dropped (plain (λ _. usize)) f.ended.kept.1.1.0, (stay_dropped (plain (λ _. u8)) f.ended.kept.1.1.1.0, tt))))

pub write_spec : {M : Type 1} → statement M
write_spec 𝓤 𝓛 𝓜 𝓡 wired =
    let H = 𝓛.H in
    let c = f.clauses 𝓛 𝓜.mem 𝓡.returns in
    let C = (tables 𝓤 H 𝓜 𝓡 𝓡.env).C in
    let Λ = (tables 𝓤 H 𝓜 𝓡 𝓡.env).Λ in
    proved_at 𝓛 f.ended stayed c 𝓜 𝓡
    (Goes-ref 𝓛 1 0 tt (plain (λ _. cells.the_row)), (Goes-dropped 𝓛 1 (plain (λ _. address.the_row)) f.ended.kept.1.0 (λ κs x w. refl), (Goes-dropped 𝓛 1 (plain (λ _. usize)) f.ended.kept.1.1.0 (λ κs x w. refl), (Goes-dropped 𝓛 1 (plain (λ _. u8)) f.ended.kept.1.1.1.0 (λ κs x w. refl), tt))))
    f.Key.name code.function (code.unfolded 𝓤 H 𝓜 𝓡 wired) (λ z are.
    let Post : Val → SProp 𝓤 = (walk_of 𝓛 f.ended stayed c).post z in
    let κ : Lft = z.0.0.0 in
    let q : Share = z.0.1.0 in
    let a = z.0.3 in
    let vss = z.0.4 in
    let rb = a.0.ref_ptr.0 in
    let ro = a.0.ref_ptr.1 in
    let d = a.0.now in
    let start = a.1.0 in
    let index = a.1.1.0 in
    let byte = a.1.1.1.0 in
    let new : (cells.the_row).Denot = record { mark = d.mark; at = d.at; slots = set d.slots index (Some byte) } in
    let Asked : Type 0 = (start.ptr ≡ d.at) × (index < length d.slots) in
    let Given : Type 0 = (new.at ≡ d.at) × (new.slots ≡ set d.slots index (Some byte)) in
    qed 𝓛 ((raw (alive 𝓛 f.signature z.0.0 z.0.1) ⊛ ‵ (owns (types_at f.signature.params z.0.0) a vss)) ∷ raw (fact 𝓤 Asked) ∷ []) ∵
    move ! (1 ∷ []) $ heard ! Asked (λ asked. split ! $ use1 𝓛 (‵ (flft κ q) ⊛ ‵ ftrue) (id⊢ 𝓤 _) $ split ! $ move ! (2 ∷ []) $ fsplit ! $ keep ! (0 ∷ 2 ∷ []) $
    regoal ! (λ (us : List Val). prop (WpFn 𝓤 H C Λ code.function us Post)) (λ i. are.0.0 i ++ (address_told start.ptr vss.1.0 are.1.0 i ++ (are.1.1.0.0 i ++ (are.1.1.1.0.0 i ++ [])))) refl $
    enter ! C Λ code.function (vptr rb ro ∷ address_val start.ptr ∷ vint w64 index ∷ vint w8 byte ∷ []) Post $
    alloc_all ! (λ l. pass_all ! refl ((tt, tt), (word-Good [] start.ptr, ((tt, record { fits = are.1.1.0.1 }), ((tt, record { fits = are.1.1.1.0.1 }), tt)))) $
    let En : Env 𝓤 H = env (code.function).locals l in
    fsplit3 ! $ move ! (1 ∷ 2 ∷ 3 ∷ []) $ opens ! tt cells.the_row rb ro (λ us. move ! (1 ∷ []) $ fsplit ! $ move ! (1 ∷ []) $
    in_a_block ! d.at (λ p. cells_own p d.slots) (id⊢ 𝓤 (never 𝓤)) (λ b o e. fsplit ! $ flt_l ! (λ small.
    take_at ! 2 $ rewrite ! 0 (λ (p : Ptr). ‵ (fat full_share (layout address.the_row) (l 2) 0 (address_val p))) (asked.0 ∙ e) refl $ give_at ! 2 $
    use1 𝓛 (‵ (cell_own b (index + o) (get_or d.slots index None)) ⊛ ‵ (Others 𝓛 b o d.slots index asked.1)) (cell_out 𝓛 b o d.slots index asked.1) $ split ! $
    use1 𝓛 (‵ (froom (ty_int w8) b (index + o))) (cell_room 𝓛 b (get_or d.slots index None) (index + o)) $
    -- [the room; the other cells; the struct's fields; its cell; the open borrow]
    first ! $ blocks ! $
    sets ! (bin ! (get_in ! (fld ! refl (stop !)) (sub ! 0 refl (whole !))) (get ! refl) tt) refl (tt, tt) $
    assigns_last ! (of_opd ! (get ! refl)) (through ! refl (stop !)) (init ! 0 refl (tt, record { fits = are.1.1.1.0.1 })) $
    exec ! C Λ En (after 1 (code.function).body) (at_ret En Post) $
    sets ! (of_opd ! (unit_lit !)) refl (tt, tt) $
    use1 𝓛 (‵ (cell_own b (index + o) (Some byte))) (uint_in 𝓛 full_share w8 byte b (index + o)) $
    use2 𝓛 (‵ (row_own b o new.slots)) (cell_in 𝓛 b o d.slots index asked.1 (Some byte)) $
    flt_i ! (length new.slots) (2 ^ 63) (omega (arith, length-set d.slots index (Some byte))) $ fjoin ! $
    rewrite ! 0 (λ (p : Ptr). ‵ (cells_own p new.slots)) (sym e) refl $ move ! (1 ∷ 0 ∷ []) $ fjoin ! $ move ! (1 ∷ 0 ∷ []) $ closes ! tt cells.the_row new us rb ro $
    returns ! (look_at ! 0 refl) $ free_all ! refl $ keep ! (3 ∷ 0 ∷ 1 ∷ 2 ∷ []) $
    -- [the reference, in three parts; the token]
    fjoin3 ! $ nothing ! $ nothing ! $ fjoin ! $ nothing ! $ fjoin ! $ nothing ! $ fjoin ! $ move ! (1 ∷ 0 ∷ []) $ fjoin ! $
    nothing ! $ move ! (2 ∷ 0 ∷ []) $ join ! $ feq_i ! (List Val) (vunit ∷ []) (vunit ∷ []) refl $
    use0 𝓛 (raw (fact 𝓤 Given)) (fact_i 𝓤 Given (emp 𝓤) (refl, refl)) $ move ! (2 ∷ 3 ∷ 1 ∷ 0 ∷ []) $
    by ! (leaves 𝓛 f.ended stayed c z vunit tt (new, (tt, (tt, (tt, tt)))) (tt, (tt, (tt, (tt, tt)))))))))))
