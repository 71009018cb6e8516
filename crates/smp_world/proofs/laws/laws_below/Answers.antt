use Rattle.smp_world.proofs.laws.laws_below.Goals as goal

pub returns : goal.returns
returns c = record {
  requests = c.requests_are_meant.ensures;
  replies = c.replies_are_told.ensures;
  due = c.steps_are_due.ensures;
  good = c.good_uploads_have_images.ensures;
  images = c.requests_keep_to_their_part.ensures.others;
}
