-- What an entry of the code shows.
use Rattle.text_corpus.specs.Corpus.{Entry}
use Rattle.text_corpus.specs.declared.entry.Entry.{Entry as CodeEntry}

abbrev pub entry_view : CodeEntry → Entry
entry_view e = record { name = e.name.now; text = e.text.now }
