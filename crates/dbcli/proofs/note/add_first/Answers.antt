use Rattle.dbcli.proofs.note.add_first.Goals as goal

pub returns : goal.returns
returns c =
    rw (c.as_slice.ensures.value, c.append_first_bytes.ensures.text, c.append.ensures.text, c.new-text.ensures) at c.put.ensures.puts
