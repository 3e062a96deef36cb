-- `front` shows the bytes that the first cells lend.
use Rattle.std.proofs.Common.{◌≡◌, ◌*◌, ◌^◌, List, [], ◌∷◌, ◌++◌, map, length, take, length-take, Some, refl, sym, ap, ◌∙◌, arith, w64}
use Rattle.std.proofs.lemmas.List.{length-map}
use base.Fraction.{full_share}
use mir.Val.{Val, vint, vptr}
use base.Logic.{SProp, emp, never, id⊢}
use base.Fml.{Lft, Share, ftrue, fat, flft}
use prog.Wp.{Env, WpFn}
use contract.Monad.{fact, fact_i}
use contract.Running.{tables}
use types.Kit.{‵, raw, ◌⊛◌, prop, at_ret, ◌$◌, ◌∵◌, !, qed, by, move, keep, drop, use0, use1, split, join, rewrite, regoal, fsplit, fjoin, feq_i, flt_l, flt_i}
use types.Part.{whole, sub, agg}
use types.Run.{stop, fld, of_opd, and_then, no_more, first, blocks, exec, returns, enter}
use types.ByLocal.{alloc_all, pass_all, free_all, look_at, get, get_in, sets, sets_last, take_at, give_at, env}
use denote.Builtin.{u8, usize, RefOf}
use denote.Memory.{hidden_shr}
use denote.Opens.{hide, unhide}
use denote.Param.{layout}
use denote.RattleType.{owns}
use denote.RawPtr.{Ptr, in_a_block}
use denote.Signature.{plain, types_at}
use denote.Slice.{slice_val, elements_shared}
use denote.Steps.{nothing, heard}
use denote.Triple.Entry.{alive}
use denote.Triple.Walked.{Stays, stay_dropped, walk_of, Goes-dropped}
use Rattle.std.proofs.alloc.Shapes.{after}
use Rattle.std.proofs.raw_atomic.Walks.{proved_at, leaves}
use Rattle.std.proofs.RcSteps.{word-Good}
use Rattle.strat_arena.specs.Filled.{BeginsFilled}
use Rattle.strat_arena.specs.Ownership.{cells_lent}
use Rattle.strat_arena.proofs.BlockLemmas.{front_seen}
use Rattle.strat_arena.proofs.ValueLemmas.{address_val, address_told}
use Rattle.strat_arena.specs.contracts.raw.Address as address
use Rattle.strat_arena.specs.contracts.raw.Cells as cells
use Rattle.strat_arena.specs.contracts.raw.Cells.front as f
use Rattle.strat_arena.proofs.raw.Cells.front.Statement.{statement}
use Rattle.strat_arena.proofs.raw.Cells.front.Code as code

abbrev stayed : Stays f.ended.signature.params f.ended.kept
stayed = (stay_dropped (RefOf (0 ∷ []) tt (plain (λ _. cells.the_row)) (λ _. tt)) f.ended.kept.0, (stay_dropped (plain (λ _. address.the_row)) f.ended.kept.1.0, (stay_dropped (plain (λ _. usize)) f.ended.kept.1.1.0, tt)))

pub front_spec : {M : Type 1} → statement M
front_spec 𝓤 𝓛 𝓜 𝓡 wired =
    let H = 𝓛.H in
    let c = f.clauses 𝓛 𝓜.mem 𝓡.returns in
    let C = (tables 𝓤 H 𝓜 𝓡 𝓡.env).C in
    let Λ = (tables 𝓤 H 𝓜 𝓡 𝓡.env).Λ in
    proved_at 𝓛 f.ended stayed c 𝓜 𝓡
    (Goes-dropped 𝓛 1 (RefOf (0 ∷ []) tt (plain (λ _. cells.the_row)) (λ _. tt)) f.ended.kept.0 (λ κs x w. refl), (Goes-dropped 𝓛 1 (plain (λ _. address.the_row)) f.ended.kept.1.0 (λ κs x w. refl), (Goes-dropped 𝓛 1 (plain (λ _. usize)) f.ended.kept.1.1.0 (λ κs x w. refl), tt)))
    f.Key.name code.function (code.unfolded 𝓤 H 𝓜 𝓡 wired) (λ z are.
    let Post : Val → SProp 𝓤 = (walk_of 𝓛 f.ended stayed c).post z in
    let κ : Lft = z.0.0.0 in
    let q : Share = z.0.1.0 in
    let a = z.0.3 in
    let vss = z.0.4 in
    let rb = a.0.ref_ptr.0 in
    let ro = a.0.ref_ptr.1 in
    let d = a.0.now in
    let start = a.1.0 in
    let len = a.1.1.0 in
    let Asked : Type 0 = (start.ptr ≡ d.at) × BeginsFilled d.slots len in
    qed 𝓛 ((raw (alive 𝓛 f.signature z.0.0 z.0.1) ⊛ ‵ (owns (types_at f.signature.params z.0.0) a vss)) ∷ raw (fact 𝓤 Asked) ∷ []) ∵
    move ! (1 ∷ []) $ heard ! Asked (λ asked. split ! $ use1 𝓛 (‵ (flft κ q) ⊛ ‵ ftrue) (id⊢ 𝓤 _) $ split ! $ move ! (2 ∷ []) $ fsplit ! $ fsplit ! $ keep ! (1 ∷ 3 ∷ []) $
    use1 𝓛 (‵ (hidden_shr cells.the_row κ d rb ro)) (id⊢ 𝓤 _) $
    let xs = asked.1.1.0 in
    let filled = asked.1.1.1 in
    let long : length xs ≡ len = omega (arith, asked.1.0, ap length filled, length-map xs Some, length-take len d.slots) in
    let Given : Type 0 = take len d.slots ≡ map Some xs in
    regoal ! (λ (us : List Val). prop (WpFn 𝓤 H C Λ code.function us Post)) (λ i. are.0.0 i ++ (address_told start.ptr vss.1.0 are.1.0 i ++ (are.1.1.0.0 i ++ []))) refl $
    enter ! C Λ code.function (vptr rb ro ∷ address_val start.ptr ∷ vint w64 len ∷ []) Post $
    alloc_all ! (λ l. pass_all ! refl ((tt, tt), (word-Good [] start.ptr, ((tt, record { fits = are.1.1.0.1 }), tt))) $
    let En : Env 𝓤 H = env (code.function).locals l in
    unhide ! $ fsplit ! $ drop ! $ in_a_block ! d.at (λ p. cells_lent p d.slots κ) (id⊢ 𝓤 (never 𝓤)) (λ b o e. fsplit ! $ flt_l ! (λ small.
    take_at ! 2 $ rewrite ! 0 (λ (p : Ptr). ‵ (fat full_share (layout address.the_row) (l 2) 0 (address_val p))) (asked.0 ∙ e) refl $ give_at ! 2 $
    use1 𝓛 (‵ (elements_shared u8 xs b o κ)) (front_seen 𝓛 b κ o d.slots len xs filled) $ hide ! $
    first ! $ blocks ! $
    sets_last ! (agg ! (and_then ! (get_in ! (fld ! refl (stop !)) (sub ! 0 refl (whole !))) (and_then ! (get ! refl) (no_more !)))) refl (tt, (tt, (record { fits = are.1.1.0.1 }, tt))) $
    exec ! C Λ En (after 1 (code.function).body) (at_ret En Post) $
    sets ! (of_opd ! (get ! refl)) refl (tt, (tt, (record { fits = are.1.1.0.1 }, tt))) $
    flt_i ! (length xs * 1) (2 ^ 63) (omega arith) $ flt_i ! (length xs) (2 ^ 64) (omega arith) $ fjoin ! $
    feq_i ! (List Val) (slice_val (b, o) len ∷ []) (slice_val (b, o) (length xs) ∷ []) (ap (λ k. slice_val (b, o) k ∷ []) (sym long)) $ fjoin ! $ fjoin ! $
    returns ! (look_at ! 0 refl) $ free_all ! refl $ keep ! (0 ∷ 1 ∷ []) $
    -- [the slice; the token]
    nothing ! $ nothing ! $ fjoin ! $ nothing ! $ fjoin ! $ nothing ! $ fjoin ! $ nothing ! $ move ! (3 ∷ 0 ∷ []) $ join ! $
    use0 𝓛 (raw (fact 𝓤 Given)) (fact_i 𝓤 Given (emp 𝓤) filled) $ move ! (1 ∷ 2 ∷ 3 ∷ 0 ∷ []) $
    by ! (leaves 𝓛 f.ended stayed c z (slice_val (b, o) len) (record { ref_ptr = (b, o); now = xs }) (tt, (tt, (tt, tt))) (tt, (tt, (tt, tt)))))))))
