use Rattle.std.proofs.Common.{Ok, refl, sym, ◌∙◌, ap, subst}
use Rattle.strat_array.specs.Told.{TheirPairs, TellsFound}
use Rattle.strat_model.specs.Answer.{as_told}
use Rattle.strat_model.specs.Request.{Get}
use Rattle.strat_model.specs.declared.replies.Reply.{Reply}
use Rattle.def_state.specs.LookUp.{first_live}
use Rattle.strat_store.specs.Applying.{IsLookedUp, is_fault}
use Rattle.strat_memory.specs.Memory.{lists_in_memory}
use Rattle.strat_memory.specs.RecoveredFields.{held_of}
use Rattle.strat_publish.proofs.WholeLemmas.{whole_read}
use Rattle.strat_store.proofs.GettingLemmas.{answer_told, damaged_told, key_pairs, none_told, unknown_looked_up, known_looked_up}
use Rattle.strat_store.proofs.LookLemmas.{decided, looks_here, looks_on, none_more}
use Rattle.strat_store.proofs.get.get.Goals as goal
use Rattle.strat_cursor.proofs.ThroughLemmas.{through_refl}

pub returns-then-not-has-clause-ok : goal.returns-then-not-has-clause-ok
returns-then-not-has-clause-ok g c = λ x w.
    unknown_looked_up _ _ (held_of c.args.held.now c.args.cache.now) x c.args.cache.now c.args.version c.args.key.now c.args.out.now (c.requires.kept c.args.cache.now) w
    (through_refl _ _ _) (g.met.D.Disk.leaves_content c.args.disk.now) (sym c.has.ensures.ok ∙ c.if-not-has.true) c.requires.room

pub get_from_levels-found-requires-clause-fits : goal.get_from_levels-found-requires-clause-fits
get_from_levels-found-requires-clause-fits g c = (whole_read (held_of c.args.held.now c.args.cache.now) (c.requires.kept c.args.cache.now)).within

pub returns-in-None-clause-ok : goal.returns-in-None-clause-ok
returns-in-None-clause-ok g c = λ x w.
    let found =
    looks_on (g.D.Disk.view c.args.disk.now).content c.args.held.now.filters c.args.held.now.memory.parents c.args.held.now.memory.parents (lists_in_memory c.args.held.now.memory) c.args.held.now.published.levels c.args.version c.args.key.now c.args.cache.now
    c.find.new.out c.get_from_levels-found.new.out c.get_from_levels-found.result refl c.in-None.ensures.ok.0 (c.in-None.ensures.ok.1 ∙ c.requires.room) c.get_from_levels-found.ensures.found in
    subst (λ (told : Reply). IsLookedUp (g.D.Disk.view c.get_from_levels-found.new.disk) (held_of c.args.held.now c.get_from_levels-found.new.cache) x (Get c.args.version c.args.key.now) (as_told told c.get_from_levels-found.new.out))
    (sym c.reply_of_get.ensures.ok)
    (known_looked_up _ _ (held_of c.args.held.now c.args.cache.now) x c.get_from_levels-found.new.cache c.args.version c.args.key.now c.get_from_levels-found.new.out (c.requires.kept c.args.cache.now) w
    c.get_from_levels-found.ensures.same (g.met.D.Disk.leaves_content c.get_from_levels-found.new.disk) c.get_from_levels-found.result (sym c.has.ensures.ok ∙ c.if-not-has.false)
    found (none_more c.get_from_levels-found.result c.find.new.out c.get_from_levels-found.new.out c.get_from_levels-found.ensures.err (c.in-None.ensures.ok.1 ∙ c.requires.room)) c.get_from_levels-found.ensures.damaged)

pub returns-in-None-clause-found : goal.returns-in-None-clause-found
returns-in-None-clause-found g c = λ f exposed ordered cached none is.
    let may = whole_read (held_of c.args.held.now c.args.cache.now) (c.requires.kept c.args.cache.now) in
    let found =
    looks_on (g.D.Disk.view c.args.disk.now).content c.args.held.now.filters c.args.held.now.memory.parents c.args.held.now.memory.parents (lists_in_memory c.args.held.now.memory) c.args.held.now.published.levels c.args.version c.args.key.now c.args.cache.now
    c.find.new.out c.get_from_levels-found.new.out c.get_from_levels-found.result refl c.in-None.ensures.ok.0 (c.in-None.ensures.ok.1 ∙ c.requires.room) c.get_from_levels-found.ensures.found in
    ap (λ (told : Reply). as_told told c.get_from_levels-found.new.out) c.reply_of_get.ensures.ok
    ∙ answer_told _ c.args.held.now.filters c.args.held.now.memory.parents (lists_in_memory c.args.held.now.memory) c.args.held.now.published.levels c.args.version c.args.key.now c.args.cache.now c.get_from_levels-found.new.out
    c.get_from_levels-found.result found (ap is_fault (sym c.reply_of_get.ensures.ok) ∙ none) f _ exposed ordered may.own (c.requires.kept c.args.cache.now).placed.numbered cached

pub returns-in-None-clause-damaged : goal.returns-in-None-clause-damaged
returns-in-None-clause-damaged g c = λ b told.
    damaged_told _ c.args.held.now.memory c.args.held.now.published.levels c.get_from_levels-found.result b c.get_from_levels-found.ensures.damaged (sym c.reply_of_get.ensures.ok ∙ told)

pub returns-in-None-clause-err : goal.returns-in-None-clause-err
returns-in-None-clause-err g c = λ b told.
    none_told _ _ c.get_from_levels-found.result b c.get_from_levels-found.ensures.damaged (sym c.reply_of_get.ensures.ok ∙ told)

pub returns-in-None-clause-len : goal.returns-in-None-clause-len
returns-in-None-clause-len g c =
    key_pairs c.reply_of_get.result c.get_from_levels-found.result c.find.new.out c.get_from_levels-found.new.out c.reply_of_get.ensures.ok (c.in-None.ensures.ok.1 ∙ c.requires.room) c.get_from_levels-found.ensures.len c.get_from_levels-found.ensures.err

pub returns-in_default-clause-ok : goal.returns-in_default-clause-ok
returns-in_default-clause-ok g c = λ x w.
    let tells = subst (λ (out : TheirPairs). TellsFound (first_live c.args.held.now.memory.parents (lists_in_memory c.args.held.now.memory) c.args.version c.args.key.now) c.args.key.now out c.find.new.out c.find.result) c.requires.room c.find.ensures.ok in
    subst (λ (told : Reply). IsLookedUp (g.D.Disk.view c.args.disk.now) (held_of c.args.held.now c.args.cache.now) x (Get c.args.version c.args.key.now) (as_told told c.find.new.out))
    (sym c.reply_of_get-in_default.ensures.ok)
    (known_looked_up _ _ (held_of c.args.held.now c.args.cache.now) x c.args.cache.now c.args.version c.args.key.now c.find.new.out (c.requires.kept c.args.cache.now) w
    (through_refl _ _ _) (g.met.D.Disk.leaves_content c.args.disk.now) (Ok c.find.result) (sym c.has.ensures.ok ∙ c.if-not-has.false)
    (looks_here _ c.args.held.now.filters c.args.held.now.memory.parents (lists_in_memory c.args.held.now.memory) c.args.held.now.published.levels c.args.version c.args.key.now c.args.cache.now c.find.new.out c.find.result tells (decided c.find.result c.in_default.not-None))
    tt (λ b e. absurd (cc)))

pub returns-in_default-clause-found : goal.returns-in_default-clause-found
returns-in_default-clause-found g c = λ f exposed ordered cached none is.
    let tells = subst (λ (out : TheirPairs). TellsFound (first_live c.args.held.now.memory.parents (lists_in_memory c.args.held.now.memory) c.args.version c.args.key.now) c.args.key.now out c.find.new.out c.find.result) c.requires.room c.find.ensures.ok in
    let may = whole_read (held_of c.args.held.now c.args.cache.now) (c.requires.kept c.args.cache.now) in
    ap (λ (told : Reply). as_told told c.find.new.out) c.reply_of_get-in_default.ensures.ok
    ∙ answer_told (g.D.Disk.view c.args.disk.now).content c.args.held.now.filters c.args.held.now.memory.parents (lists_in_memory c.args.held.now.memory) c.args.held.now.published.levels c.args.version c.args.key.now c.args.cache.now c.find.new.out
    (Ok c.find.result)
    (looks_here _ c.args.held.now.filters c.args.held.now.memory.parents (lists_in_memory c.args.held.now.memory) c.args.held.now.published.levels c.args.version c.args.key.now c.args.cache.now c.find.new.out c.find.result tells (decided c.find.result c.in_default.not-None))
    (ap is_fault (sym c.reply_of_get-in_default.ensures.ok) ∙ none) f c.args.held.now.published.manifest.next_array exposed ordered may.own (c.requires.kept c.args.cache.now).placed.numbered cached
