use Rattle.std.proofs.Common.{◌≡◌, List, [], ◌∷◌, ◌++◌, length, set, replicate, sym, ap, ◌∙◌, subst}
use Rattle.strat_split.specs.Survey.{told}
use Rattle.strat_split.specs.Placing.{IsSoFar, top_part}
use Rattle.strat_split.specs.declared.place.Draft.{Draft}
use Rattle.strat_split.specs.declared.parts.Part.{Part}
use Rattle.strat_split.proofs.PlaceLemmas.{first_none, first_some}
use Rattle.strat_split.proofs.place.first_placed.Goals as goal
use Rattle.strat_split.proofs.place.first_placed.Goals.{then-first-gt0+in_ok-label, else-first-gt0}

pub returns-clause-ok : goal.returns-clause-ok
returns-clause-ok c = λ lawful.
    elim c.if-first-gt0.branch [
      | then-first-gt0+in_ok-label w ↦
          let label : w.in_ok-label.label ≡ 0 = w.in_ok-label.ensures.ok ∙ ap (λ (ps : List Part). length ps) c.in_ok-draft.ensures.none in
          let labels : w.add_part.new.draft.labels.items ≡ replicate (length c.args.survey.now.own.now) 4294967295 = w.add_part.ensures.same.0 ∙ c.in_ok-draft.ensures.ok in
          let joins : w.add_part.new.draft.joins.items ≡ replicate (length c.args.survey.now.own.now) 4294967295 = w.add_part.ensures.same.1 ∙ c.in_ok-draft.ensures.found in
          let parts : w.put_label.new.draft.parts.items ≡ top_part (told c.args.survey.now) c.args.first ∷ [] = w.put_label.ensures.same ∙ w.in_ok-label.ensures.found ∙ ap (λ (ps : List Part). ps ++ top_part (told c.args.survey.now) c.args.first ∷ []) c.in_ok-draft.ensures.none in
          subst (λ (d : Draft). IsSoFar (told c.args.survey.now) 1 d.labels.items d.joins.items d.parts.items) (sym w.draft-is)
          (first_some (told c.args.survey.now) lawful c.args.first c.requires.found w.put_label.new.draft.labels.items w.put_label.new.draft.joins.items w.put_label.new.draft.parts.items w.if-first-gt0.true
          (w.put_label.ensures.ok.0 ∙ (λ i. set (labels i) 0 (label i))) (w.put_label.ensures.ok.1 ∙ (λ i. set (joins i) 0 (label i))) parts)
      | else-first-gt0 w ↦ subst (λ (d : Draft). IsSoFar (told c.args.survey.now) 1 d.labels.items d.joins.items d.parts.items) (sym w.draft-is) (first_none (told c.args.survey.now) lawful c.args.first c.requires.found c.in_ok-draft.draft.labels.items c.in_ok-draft.draft.joins.items c.in_ok-draft.draft.parts.items w.if-first-gt0.false c.in_ok-draft.ensures.ok c.in_ok-draft.ensures.found c.in_ok-draft.ensures.none)
    ]
