use Rattle.std.proofs.Common.{◌∙◌, sym, subst, ℕ, List}
use Rattle.smp_flash.specs.Area.{Clear, Keeps}
use Rattle.smp_flash.specs.Layout.{progress_of}
use Rattle.smp_flash.specs.declared.layout.BankPlace.{BankPlace}
use Rattle.smp_progress.specs.Cells.{cell_length}
use Rattle.smp_progress.proofs.laws.progress_outlasts_other_changes.Goals as goal

pub returns-clause-holds : goal.returns-clause-holds
returns-clause-holds c = λ layout entry spots old new a b keeps has. record {
  content = has.content;
  held = c.bank_outlasts_other_changes.ensures.content (progress_of layout) cell_length spots old new a b keeps ∙ has.held;
  gives = has.gives;
}

pub returns-clause-says : goal.returns-clause-says
returns-clause-says c = λ p spots old new a b keeps says. record {
  place = says.place;
  bank = c.bank_outlasts_other_changes.ensures.says p.bank spots old new
      (subst (λ (q : BankPlace). Clear spots q.first.at 4096) (sym says.place) a) (subst (λ (q : BankPlace). Clear spots q.second.at 4096) (sym says.place) b) keeps says.bank;
  holds = record {
    content = says.holds.content;
    held = c.bank_outlasts_other_changes.ensures.content (progress_of p.layout) cell_length spots old new a b keeps ∙ says.holds.held;
    gives = says.holds.gives;
  };
}
