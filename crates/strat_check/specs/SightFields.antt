-- The fields of sights.
use Rattle.std.specs.Prelude.{◌≡◌, ◌≤◌, length, vec_capacity}
use Rattle.strat_check.specs.Sightings.{Sightings}
use Rattle.strat_check.specs.declared.sights.Sights.TheInside.{Inside}

-- the sightings of these fields
abbrev pub sightings_of : Inside → Sightings
sightings_of a = record {
  own = a.own.items;
  hidden = a.hidden.items;
  hidden_weight = a.hidden_weight.items;
  seen = a.seen.items;
  weight = a.weight.items;
  order = a.order;
}

-- each version has its numbers, and there is room to order the versions of each key
pub record AreSights (a : Inside) : Type 0 where
  pub hidden_len : length a.hidden.items ≡ length a.own.items
  pub hidden_weight_len : length a.hidden_weight.items ≡ length a.own.items
  pub seen_len : length a.seen.items ≡ length a.own.items
  pub weight_len : length a.weight.items ≡ length a.own.items
  pub order_len : length a.order.starts ≡ length a.own.items
  pub bare_room : length a.own.items ≤ vec_capacity a.bare
