-- `deallocate` makes room of the cells, whatever they hold, and hands it back with the allocator's token.
use Rattle.std.proofs.Common.{◌≡◌, ◌*◌, ℕ, List, [], ◌∷◌, ◌++◌, length, T, refl, sym, ap, ◌∙◌, subst, arith, lit<, w8, w64}
use mir.Syntax.{Ty, Fn, Args, a_type, dcons, dnil, ty_array, ty_int, ty_unit}
use mir.Val.{Val, vint, vptr, vunit, has_ty, WT}
use mir.MapTy.{inst_fn}
use base.Logic.{SProp, never, id⊢}
use base.Fml.{Lft, Share, ftrue, froom, flft}
use prog.Capped.{capped_is}
use prog.Wp.{Env, WpFn}
use contract.BorrowLft.{◌⊑◌, ⊑_trans}
use contract.Monad.{fact}
use contract.Running.{tables}
use types.Kit.{‵, raw, ◌⊛◌, given, later, prop, at_ret, ◌$◌, ◌∵◌, !, qed, by, move, keep, drop, use1, split, join, learn, group, rewrite, regoal, fsplit, fjoin, feq_i, flt_l, await}
use types.Part.{whole, sub}
use types.Run.{stop, fld, lit, unit_lit, of_opd, no_more, and_then, first, blocks, exec, returns, enter}
use types.ByLocal.{alloc_all, pass_all, free_all, look_at, get, get_in, sets, lands_last, env}
use denote.Builtin.{usize, RefOf}
use denote.RattleType.{RattleType, owns}
use denote.RawPtr.{Ptr, block_ptr, in_a_block}
use denote.Param.{param, bounded}
use denote.Signature.{plain, types_at}
use denote.Steps.{nothing, heard}
use denote.Triple.Entry.{alive}
use denote.Triple.Call.{calls_at_last}
use denote.Triple.Table.{framed}
use denote.Triple.Walked.{Stays, stay_dropped, walk_of, Goes-dropped}
use Rattle.std.proofs.alloc.Calls.{Al, seen, Goes-blank, Gives, at_gives, Gives-goes, Gives-Gives}
use Rattle.std.proofs.alloc.Shapes.{after}
use Rattle.std.proofs.raw_atomic.Walks.{proved_at, leaves}
use Rattle.std.proofs.RcSteps.{word-Good}
use Rattle.strat_arena.specs.Ownership.{cells_own, lease_owns}
use Rattle.strat_arena.proofs.BlockLemmas.{into_room}
use Rattle.strat_arena.proofs.ValueLemmas.{address_val, address_told, owner_val, owner_told}
use Rattle.strat_arena.specs.contracts.raw.Address as address
use Rattle.strat_arena.specs.contracts.raw.Cells as block
use Rattle.strat_arena.specs.contracts.raw.Lease as lease
use Rattle.strat_arena.specs.contracts.raw.deallocate.{ended, clauses}
use Rattle.strat_arena.specs.contracts.raw.deallocate.Key.{name as #self}
use Rattle.strat_arena.proofs.raw.deallocate.Statement.{statement}
use Rattle.strat_arena.proofs.raw.deallocate.Code as code

pub deallocate_spec : {M : Type 1} → statement M
deallocate_spec 𝓤 𝓛 𝓜 𝓡 wired A L g d dd met md =
    let H = 𝓛.H in
    let E = ended A g d dd in
    let c = clauses A g d dd 𝓛 𝓜.mem 𝓡.returns in
    let args : Args = bounded (a_type ∷ []) (A, tt) (dcons d (dcons dd dnil)) in
    let fn : Fn = inst_fn args code.function in
    let Z : RattleType = param 0 A in
    let Handle = RefOf (0 ∷ []) tt (plain (λ _. Z)) (λ _. tt) in
    let stays : Stays E.signature.params E.kept
    = (stay_dropped Handle E.kept.0, (stay_dropped (plain (λ _. address.the_row)) E.kept.1.0, (stay_dropped (plain (λ _. usize)) E.kept.1.1.0, (stay_dropped (plain (λ _. block.the_row)) E.kept.1.1.1.0, (stay_dropped (plain (λ _. lease.the_row Z g)) E.kept.1.1.1.1.0, tt))))) in
    let C = (tables 𝓤 H 𝓜 𝓡 𝓡.env).C in
    let Λ = (tables 𝓤 H 𝓜 𝓡 𝓡.env).Λ in
    proved_at 𝓛 E stays c 𝓜 𝓡
    (Goes-dropped 𝓛 2 Handle E.kept.0 (λ κs x w. refl), (Goes-dropped 𝓛 2 (plain (λ _. address.the_row)) E.kept.1.0 (λ κs x w. refl), (Goes-dropped 𝓛 2 (plain (λ _. usize)) E.kept.1.1.0 (λ κs x w. refl), (Goes-blank 𝓛 2 (plain (λ _. block.the_row)) E.kept.1.1.1.0 (λ κs x w. tt), (Goes-blank 𝓛 2 (plain (λ _. lease.the_row Z g)) E.kept.1.1.1.1.0 (λ κs x w. tt), tt)))))
    (#self args) fn (code.unfolded 𝓤 H 𝓜 𝓡 wired (A, tt) d dd) (λ z are.
    let Post : Val → SProp 𝓤 = (walk_of 𝓛 E stays c).post z in
    let a = z.0.3 in
    let vss = z.0.4 in
    let Y : Al = record { row = A; laws = L; g = g; d = d; drops = dd } in
    let κ : Lft = z.0.0.0 in
    let q : Share = z.0.1.0 in
    let h = a.0.now in
    let handle = a.0.ref_ptr in
    let start = a.1.0 in
    let len = a.1.1.0 in
    let cells = a.1.1.1.0 in
    let right = a.1.1.1.1.0 in
    let fits = are.1.1.0.1 in
    let τ : Ty = ty_array (ty_int w8) len in
    let Asked : Type 0 = (cells.at ≡ start.ptr) × (length cells.slots ≡ len) × (right.at ≡ start.ptr) × (right.len ≡ len) × (right.alloc ≡ h) in
    qed 𝓛 ((raw (alive 𝓛 E.signature z.0.0 z.0.1) ⊛ ‵ (owns (types_at E.signature.params z.0.0) a vss)) ∷ (raw (fact 𝓤 (z.0.0.1.0 ⊑ A.lives)) ⊛ raw (fact 𝓤 Asked)) ∷ []) ∵
    move ! (1 ∷ []) $ split ! $ heard ! (z.0.0.1.0 ⊑ A.lives) (λ le. heard ! Asked (λ asked. split ! $ move ! (1 ∷ []) $
    fsplit ! $ fsplit ! $ drop ! $ move ! (1 ∷ []) $ fsplit ! $ drop ! $ fsplit ! $ drop ! $ fsplit ! $ fsplit ! $ drop ! $ move ! (1 ∷ []) $ fsplit ! $ fsplit ! $ drop ! $ move ! (1 ∷ []) $ drop ! $ move ! (1 ∷ []) $
    -- [the cells; the allocator's token; the handle; the lifetimes]
    rewrite ! 0 (λ (p : Ptr). ‵ (cells_own p cells.slots)) asked.0 refl $
    in_a_block ! start.ptr (λ p. cells_own p cells.slots) (id⊢ 𝓤 (never 𝓤)) (λ b o at. fsplit ! $ flt_l ! (λ small.
    use1 𝓛 (‵ (froom (ty_array (ty_int w8) (length cells.slots)) b o)) (into_room 𝓛 b cells.slots o) $
    rewrite ! 0 (λ (n : ℕ). ‵ (froom (ty_array (ty_int w8) n) b o)) asked.1 refl $
    rewrite ! 1 (λ (u : A.Denot × Ptr × ℕ). ‵ (lease_owns (g.dealloc_token u.0) u.1 u.2)) (λ i. (asked.4 i, (asked.2 ∙ at) i, asked.3 i)) refl $
    move ! (2 ∷ []) $ use1 𝓛 (‵ (seen Y κ handle h)) (id⊢ 𝓤 _) $ move ! (3 ∷ []) $ use1 𝓛 (‵ (flft κ q) ⊛ ‵ (flft z.0.0.1.0 z.0.1.1.0) ⊛ ‵ ftrue) (id⊢ 𝓤 _) $ split ! $ move ! (3 ∷ 4 ∷ 2 ∷ 0 ∷ []) $
    let y = at_gives Y 𝓛 𝓜.mem 𝓡.returns κ q handle h b o len 1 τ in
    regoal ! (λ (us : List Val). prop (WpFn 𝓤 H C Λ fn us Post))
    (λ i. are.0.0 i ++ ((address_told start.ptr vss.1.0 are.1.0 ∙ ap (λ (p : Ptr). address_val p ∷ []) at) i ++ (are.1.1.0.0 i ++ (owner_told vss.1.1.1.0 are.1.1.1.0.0 i ++ (owner_told vss.1.1.1.1.0 are.1.1.1.1.0.0 i ++ []))))) refl $
    enter ! C Λ fn (vptr handle.0 handle.1 ∷ address_val (block_ptr b o) ∷ vint w64 len ∷ owner_val ∷ owner_val ∷ []) Post $
    alloc_all ! (λ l. pass_all ! refl ((tt, tt), (word-Good [] (block_ptr b o), ((tt, record { fits = fits }), ((tt, (tt, tt)), ((tt, (tt, tt)), tt))))) $ let En : Env 𝓤 H = env fn.locals l in
    first ! $ blocks ! $
    group ! 4 $ use1 𝓛 (raw ((Gives Y 𝓛 𝓜.mem 𝓡.returns).pre y)) (Gives-goes Y 𝓛 𝓜.mem 𝓡.returns κ q handle h (⊑_trans κ z.0.0.1.0 A.lives z.0.2.0 le) b o len 1 τ (capped_is (len * 1) (omega arith) ∙ omega arith) refl fits (lit< tt)) $
    calls_at_last ! (framed 𝓤 H 𝓜 (tables 𝓤 H 𝓜 𝓡 𝓡.env)) (Gives Y 𝓛 𝓜.mem 𝓡.returns) (met.deallocate dd) y
    (and_then ! (get ! refl) (and_then ! (get_in ! (fld ! refl (stop !)) (sub ! 0 refl (whole !))) (and_then ! (get ! refl) (and_then ! (lit ! tt) (no_more !))))) (λ v.
    use1 𝓛 (later (given (v ≡ vunit) (‵ (flft κ q)))) (Gives-Gives Y 𝓛 𝓜.mem 𝓡.returns κ q handle h b o len 1 τ v) $ await ! tt $ learn ! (λ e.
    lands_last ! refl (subst (λ (u : Val). T (has_ty ty_unit u) × WT u) (sym e) (tt, tt)) $ exec ! C Λ En (after 1 fn.body) (at_ret En Post) $
    sets ! (of_opd ! (unit_lit !)) refl (tt, tt) $
    returns ! (look_at ! 0 refl) $ free_all ! refl $ keep ! (0 ∷ 1 ∷ []) $ join ! $
    feq_i ! (List Val) (vunit ∷ []) (vunit ∷ []) refl $ nothing ! $
    nothing ! $ nothing ! $ fjoin ! $ nothing ! $ fjoin ! $ nothing ! $ fjoin ! $ nothing ! $ fjoin ! $ nothing ! $ fjoin ! $ move ! (3 ∷ 0 ∷ 2 ∷ 1 ∷ []) $
    by ! (leaves 𝓛 E stays c z vunit tt (tt, (tt, (tt, (tt, (tt, tt))))) (tt, (tt, (tt, (tt, (tt, tt))))))))))))))
