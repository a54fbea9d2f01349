use Rattle.std.proofs.Common.{[], sym, ap, ◌∙◌}
use Rattle.std.specs.Prelude.{option_map}
use Rattle.std.specs.Option.{option_map_or}
use Rattle.dblines.proofs.Writing.{wrote_nothing}
use Rattle.dbmarks.specs.EndMarks.{entry_value}
use Rattle.dbexplain.specs.Below.{line_of_entry}
use Rattle.dbexplain.specs.Notes.{wanted_entry}
use Rattle.dbexplain.proofs.Below.{entry_said}
use Rattle.dbexplain.proofs.owners.Owners.put_wanted.Goals as goal

pub returns-in-Some : goal.returns-in-Some
returns-in-Some g c = record {
  all = _;
  wrote = c.put.ensures;
  is = λ file V h.
      c.as_slice.ensures.value ∙ c.entry_line.ensures ∙ ap (λ o. option_map_or line_of_entry (option_map entry_value o) []) (sym c.in-Some.is)
      ∙ entry_said file V c.args.self.now.marks.now c.args.page c.wanted_entry.result h.survey h.marks
      (c.wanted_entry.ensures ∙ ap wanted_entry c.mark_of.ensures);
}

pub returns-in-None : goal.returns-in-None
returns-in-None g c = record {
  all = [];
  wrote = wrote_nothing c.args.writer.now;
  is = λ file V h.
      ap (λ o. option_map_or line_of_entry (option_map entry_value o) []) (sym c.in-None.is)
      ∙ entry_said file V c.args.self.now.marks.now c.args.page c.wanted_entry.result h.survey h.marks
      (c.wanted_entry.ensures ∙ ap wanted_entry c.mark_of.ensures);
}
