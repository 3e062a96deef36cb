use Rattle.std.proofs.Common.{◌≡◌, get_or, sym, ◌∙◌, arith}
use Rattle.std.proofs.lemmas.List.{get_or_read}
use Rattle.std.proofs.lemmas.Result.{on_ok_weaker}
use Rattle.strat_split.specs.Survey.{told}
use Rattle.strat_split.proofs.PlaceLemmas.{closes_small, alone_small, joins_placed, closes_placed, alone_placed}
use Rattle.strat_split.proofs.place.place_version.Goals as goal

pub part_below-requires-clause-room : goal.part_below-requires-clause-room
part_below-requires-clause-room c = closes_small (told c.args.survey.now) c.args.c c.parent_of-p.result c.requires.kept.tree c.requires.kept.fits c.requires.fits.0 c.requires.fits.1 c.parent_of-p.ensures.ok c.requires.kept.own_small c.requires.kept.small c.in-Closes.leads (sym c.in-Closes.is ∙ c.requires.found)

pub part_below-requires-in-Alone-clause-room : goal.part_below-requires-in-Alone-clause-room
part_below-requires-in-Alone-clause-room c = alone_small (told c.args.survey.now) c.args.c c.parent_of-p.result c.requires.kept.tree c.requires.kept.fits c.requires.fits.0 c.requires.fits.1 c.parent_of-p.ensures.ok c.requires.kept.own_small c.requires.kept.small c.in-Alone.leads (sym c.in-Alone.is ∙ c.requires.found)

pub returns-in-Joins-clause-ok : goal.returns-in-Joins-clause-ok
returns-in-Joins-clause-ok c = λ lawful far.
    let label_is : c.index-label.result.now ≡ get_or c.args.draft.now.joins.items c.parent_of-p.result 0 = get_or_read c.args.draft.now.joins.items c.parent_of-p.result c.index-label.result.now (omega arith) c.index-label.ensures 0 in
    joins_placed (told c.args.survey.now) lawful c.args.c c.parent_of-p.result c.index-label.result.now c.args.draft.now.labels.items c.args.draft.now.joins.items c.put_label.new.draft.labels.items c.put_label.new.draft.joins.items c.args.draft.now.parts.items c.put_label.new.draft.parts.items c.requires.fits.0 c.requires.fits.1 far c.parent_of-p.ensures.ok (sym c.in-Joins.is ∙ c.requires.found) label_is c.put_label.ensures.ok.0 c.put_label.ensures.ok.1 c.put_label.ensures.same

pub returns-in-Closes-clause-ok : goal.returns-in-Closes-clause-ok
returns-in-Closes-clause-ok c = λ lawful far.
    on_ok_weaker c.close_group.result (λ placed. closes_placed (told c.args.survey.now) lawful c.args.c c.parent_of-p.result c.in-Closes.leads c.part_below.result c.args.draft.now.labels.items c.args.draft.now.joins.items c.close_group.new.draft.labels.items c.close_group.new.draft.joins.items c.args.draft.now.parts.items c.close_group.new.draft.parts.items c.requires.fits.0 c.requires.fits.1 far c.parent_of-p.ensures.ok (sym c.in-Closes.is ∙ c.requires.found) c.part_below.ensures.ok placed) c.close_group.ensures.ok

pub returns-in-Alone-clause-ok : goal.returns-in-Alone-clause-ok
returns-in-Alone-clause-ok c = λ lawful far.
    on_ok_weaker c.stand_alone.result (λ placed. alone_placed (told c.args.survey.now) lawful c.args.c c.parent_of-p.result c.in-Alone.leads c.part_below-in-Alone.result c.args.draft.now.labels.items c.args.draft.now.joins.items c.stand_alone.new.draft.labels.items c.stand_alone.new.draft.joins.items c.args.draft.now.parts.items c.stand_alone.new.draft.parts.items c.requires.fits.0 c.requires.fits.1 far c.parent_of-p.ensures.ok (sym c.in-Alone.is ∙ c.requires.found) c.part_below-in-Alone.ensures.ok placed) c.stand_alone.ensures.ok
