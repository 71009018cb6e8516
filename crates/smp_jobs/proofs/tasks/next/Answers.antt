-- A job that asks once is done after its answer.
use Rattle.std.specs.String.{string_bytes}
use Rattle.smp_model.specs.Meant.{image_list, echo}
use Rattle.smp_jobs.proofs.tasks.next.Goals as goal

pub returns-in-List-clause-next : goal.returns-in-List-clause-next
returns-in-List-clause-next c = λ earlier h. rw c.in-List.is (c.after_one.ensures.next image_list earlier)

pub returns-in-Echo-clause-next : goal.returns-in-Echo-clause-next
returns-in-Echo-clause-next c = λ earlier h. rw c.in-Echo.is (c.after_one-in-Echo.ensures.next (echo (string_bytes c.in-Echo.field-0.text)) earlier)
