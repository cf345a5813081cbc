-- An operation in a table, without where it lies in memory.
use Rattle.idl_tables.specs.declared.entry.Entry.{Entry}
use Rattle.idl_tables.specs.Tables.{Operation}

abbrev pub operation : Entry → Operation
operation e = record { name = e.name.now.text; declarer = e.declarer.now.text }
