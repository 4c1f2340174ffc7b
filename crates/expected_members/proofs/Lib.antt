mod NamesStored
