-- The premises of the laws as tests.
use Rattle.std.proofs.Common.{◌≡◌, ◌<◌, ℕ, true, eqb, ltb, ◌&&◌, List, length, subst}
use Rattle.std.specs.List.{list_all}
use Rattle.std.proofs.lemmas.Bool.{ltb-true}
use Rattle.strat_base.specs.Tree.{Parents, IsTree}
use Rattle.strat_base.specs.Entries.{Entry, is_ascending, holds_entry}
use Rattle.def_state.specs.Level.{Level, own_leads, least_live, level_leads, IsStratified}
use Rattle.strat_base.proofs.ListFacts.{Among, all_at}
use Rattle.strat_base.proofs.EntryLemmas.{held_among, among_held}
use Rattle.def_split.specs.Plan.{Plan, horizon_of}
use Rattle.def_split.specs.Planned.{planned_level, IsPlan}
use Rattle.def_split.specs.Groups.{grouped_entries, SplitsGroups, level_of_groups}
use Rattle.def_split.proofs.ListLemmas.{bool_same}
use Rattle.def_split.proofs.PlannedLemmas.{plan_stratified, rule_k, rule_m, lead_entry, entry_lead}
use Rattle.def_split.proofs.GroupedLemmas.{level_groups}
use Rattle.def_split.proofs.SplitLemmas.{plan_of_groups}

pub low_versions : (entries : List Entry) (h : ℕ) → list_all (λ e. ltb e.version h) entries ≡ true → (e : Entry) → Among e entries → e.version < h
low_versions entries h low e among = ltb-true e.version h (all_at (λ d. ltb d.version h) e entries low among)

module _ (parents : Parents) (tree : IsTree parents) (entries : List Entry) (plan : Plan) (number first : ℕ)
    (up : is_ascending entries ≡ true) (low : (e : Entry) → Among e entries → e.version < horizon_of plan) (split : IsPlan parents entries plan) where
  pub leads_held : (e : Entry) → holds_entry (level_leads (planned_level parents entries plan number first)) e ≡ holds_entry entries e
  leads_held e =
      bool_same (holds_entry (level_leads (planned_level parents entries plan number first)) e) (holds_entry entries e)
      (λ held. among_held entries e (lead_entry parents tree entries plan low split number first up e (held_among (level_leads (planned_level parents entries plan number first)) e held)))
      (λ held. among_held (level_leads (planned_level parents entries plan number first)) e (entry_lead parents tree entries plan low split number first up e (held_among entries e held)))

module _ (parents : Parents) (tree : IsTree parents) (groups : List (List Entry)) (own seen : ℕ → ℕ) (plan : Plan) (number first : ℕ)
    (splits : SplitsGroups parents groups own seen plan) where
  -- what is so of the level of all entries is so of the level filled group by group
  from_entries : (P : Level → Type 0) → P (planned_level parents (grouped_entries groups) plan number first) → P (level_of_groups parents groups plan number first)
  from_entries P is = subst P (level_groups parents tree groups splits.grouped plan number first) is

  pub groups_stratified : IsStratified parents (level_of_groups parents groups plan number first)
  groups_stratified =
      let planned = plan_of_groups parents tree groups own seen plan splits in
      from_entries (λ level. IsStratified parents level) (plan_stratified parents tree (grouped_entries groups) plan planned.0 planned.1 number first splits.grouped.ascending)

  pub groups_described : list_all (λ a. (eqb a.entries (length a.content) && eqb a.leads (length (own_leads a))) && eqb a.least (least_live parents a)) (level_of_groups parents groups plan number first).arrays ≡ true
  groups_described =
      let planned = plan_of_groups parents tree groups own seen plan splits in
      from_entries (λ level. list_all (λ a. (eqb a.entries (length a.content) && eqb a.leads (length (own_leads a))) && eqb a.least (least_live parents a)) level.arrays ≡ true)
      (rule_k parents tree (grouped_entries groups) plan planned.0 planned.1 number first splits.grouped.ascending)

  pub groups_ascend : list_all (λ a. is_ascending a.content) (level_of_groups parents groups plan number first).arrays ≡ true
  groups_ascend =
      let planned = plan_of_groups parents tree groups own seen plan splits in
      from_entries (λ level. list_all (λ a. is_ascending a.content) level.arrays ≡ true)
      (rule_m parents tree (grouped_entries groups) plan planned.0 planned.1 number first splits.grouped.ascending)

  pub groups_held : (e : Entry) → holds_entry (level_leads (level_of_groups parents groups plan number first)) e ≡ holds_entry (grouped_entries groups) e
  groups_held e =
      let planned = plan_of_groups parents tree groups own seen plan splits in
      from_entries (λ level. holds_entry (level_leads level) e ≡ holds_entry (grouped_entries groups) e)
      (leads_held parents tree (grouped_entries groups) plan number first splits.grouped.ascending planned.0 planned.1 e)
