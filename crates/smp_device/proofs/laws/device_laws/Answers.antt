use Rattle.smp_device.proofs.laws.device_laws.Goals as goal

pub returns : goal.returns
returns c = record {
  images = c.requests_keep_to_their_part.ensures.images;
  counters = c.requests_keep_to_their_part.ensures.counters;
  off_sides = c.steps_need_the_flash.ensures.images;
  no_save = c.steps_need_the_flash.ensures.saved;
  stand = c.sides_outlast_other_changes.ensures.stand;
  say = c.sides_outlast_other_changes.ensures.say;
  saved = c.settings_outlast_other_changes.ensures.saved;
  settings = c.settings_outlast_other_changes.ensures.says;
  newest = c.bank_outlasts_other_changes.ensures.holds;
  one_saved = c.saved_settings_are_told_apart.ensures;
  one_side = c.sides_are_told_apart.ensures;
}
