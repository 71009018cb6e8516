use Rattle.std.proofs.Common.{◌≡◌, ◌+◌, ◌∙◌, sym, refl, true}
use Rattle.smp_flash.proofs.Passing.{Calls-after}
use Rattle.smp_flash.proofs.Telling.{IfSome-same}
use Rattle.smp_gate.specs.Newest.{sides}
use Rattle.smp_gate.proofs.Choosing.{told_none, told_opened, opened_says, current_Calls}
use Rattle.smp_gate.proofs.Contents.{body_of}
use Rattle.smp_gate.proofs.Renewing.{told_newest, passed_Calls}
use Rattle.smp_gate.proofs.bank.Bank.open.Goals as goal

pub returns-in_default-clause-unformatted : goal.returns-in_default-clause-unformatted
returns-in_default-clause-unformatted g c = λ e. IfSome-same _ _ _ c.choose_side.ensures.kept (told_none c.args.place c.args.cell c.in-Ok.choice _ c.in_default.is c.in-Ok.ensures.chosen)

pub returns-clause-says : goal.returns-clause-says
returns-clause-says g c =
    IfSome-same _ _ _ (c.in_default-read_body.ensures.kept ∙ c.in_default-find_cells.ensures.kept ∙ c.choose_side.ensures.kept)
    (opened_says (record {
      place = c.args.place;
      cell = c.args.cell;
      second = c.in-Some.choice.second;
      generation = c.in-Some.choice.head.generation;
      size = c.in-Some.choice.head.size;
      gates = c.find_cells.new.gates.items;
      sure = true;
    }) c.in-Ok.choice c.in-Some.choice _ c.read_body.new.body.items _ c.in-Some.is c.current_side-at.ensures (c.in-Ok.ensures.small c.in-Some.choice c.in-Some.is) refl refl refl c.in-Ok.ensures.chosen
    (IfSome-same _ _ _ (sym (c.in_default-find_cells.ensures.kept ∙ c.choose_side.ensures.kept)) c.in_default-read_body.ensures.body)
    (IfSome-same _ _ _ (sym c.choose_side.ensures.kept) c.in_default-find_cells.ensures.used))

pub returns-clause-newest : goal.returns-clause-newest
returns-clause-newest g c =
    told_newest c.args.place c.in-Some.choice.second c.in-Some.choice.head.generation c.read_body.new.body.items _
    (IfSome-same _ _ _ (c.in_default-read_body.ensures.kept ∙ c.in_default-find_cells.ensures.kept ∙ c.choose_side.ensures.kept)
    (told_opened c.args.place c.in-Ok.choice c.in-Some.choice _ c.read_body.new.body.items _ c.in-Some.is c.current_side-at.ensures (c.in-Ok.ensures.small c.in-Some.choice c.in-Some.is) c.in-Ok.ensures.chosen
    (IfSome-same _ _ _ (sym (c.in_default-find_cells.ensures.kept ∙ c.choose_side.ensures.kept)) c.in_default-read_body.ensures.body)))

pub returns-clause-content : goal.returns-clause-content
returns-clause-content g c =
    body_of c.args.place c.args.cell c.in-Some.choice.second c.in-Some.choice.head.generation c.read_body.new.body.items _
    (IfSome-same _ _ _ (c.in_default-read_body.ensures.kept ∙ c.in_default-find_cells.ensures.kept ∙ c.choose_side.ensures.kept)
    (told_opened c.args.place c.in-Ok.choice c.in-Some.choice _ c.read_body.new.body.items _ c.in-Some.is c.current_side-at.ensures (c.in-Ok.ensures.small c.in-Some.choice c.in-Some.is) c.in-Ok.ensures.chosen
    (IfSome-same _ _ _ (sym (c.in_default-find_cells.ensures.kept ∙ c.choose_side.ensures.kept)) c.in_default-read_body.ensures.body)))

pub returns-in-Err-find_cells-clause-calls : goal.returns-in-Err-find_cells-clause-calls
returns-in-Err-find_cells-clause-calls g c =
    passed_Calls (sides c.args.place) _ _ c.in-Err-find_cells.fault _ c.passed_on-in-Err-find_cells.ensures
    (Calls-after _ _ _ _ _ c.in-Ok.ensures.calls (current_Calls c.args.place c.in-Some.choice.second _ _ _ _ c.current_side-at.ensures c.in-Err-find_cells.ensures.calls))

pub returns-in-Err-read_body-clause-calls : goal.returns-in-Err-read_body-clause-calls
returns-in-Err-read_body-clause-calls g c =
    passed_Calls (sides c.args.place) _ _ c.in-Err-read_body.fault _ c.passed_on-in-Err-read_body.ensures
    (Calls-after _ _ _ _ _ (Calls-after _ _ _ _ _ c.in-Ok.ensures.calls (current_Calls c.args.place c.in-Some.choice.second _ _ _ _ c.current_side-at.ensures c.in_default-find_cells.ensures.calls))
    (current_Calls c.args.place c.in-Some.choice.second _ _ _ _ c.current_side-at.ensures c.in-Err-read_body.ensures.calls))

pub returns-clause-calls : goal.returns-clause-calls
returns-clause-calls g c =
    Calls-after _ _ _ _ _ (Calls-after _ _ _ _ _ c.in-Ok.ensures.calls (current_Calls c.args.place c.in-Some.choice.second _ _ _ _ c.current_side-at.ensures c.in_default-find_cells.ensures.calls))
    (current_Calls c.args.place c.in-Some.choice.second _ _ _ _ c.current_side-at.ensures c.in_default-read_body.ensures.calls)
