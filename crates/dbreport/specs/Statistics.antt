-- The forms of the statistics.
use Rattle.dbformat.specs.Rows.{StatForm}
use Rattle.dbreport.specs.declared.statistics.Form.{Form}

-- a form, as the definitions have it
abbrev pub form_of : Form → StatForm
form_of f = record { aggregate = f.aggregate; all = f.all }
